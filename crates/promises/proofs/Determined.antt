-- Every contract determines its answer and each lent cell: any two answers, and any two states of the lent memory, that it allows for the same input
-- agree. An answer is known by what it tells, and the rest is given by an equation. Assumes nothing.
use Prim.Native.Nat.{ℕ}
use mathlib.Core.Bool.{Bool}
use mathlib.Core.Path.{◌≡◌, sym, ap, ◌∙◌}
use mathlib.Core.List.{List}
use lib.Ieee.{Float}
use Rattle.std.specs.Prelude.{Result}
use Rattle.refusal.specs.Answers.{tells, Ended}
use Rattle.refusal.specs.declared.Refusal.{Refusal}
use Rattle.refusal.specs.declared.Drawing.{Drawing}
use Rattle.refusal.proofs.Named.{answer_determined, drawing_determined}
use Rattle.words.specs.Below as below
use Rattle.weighted_tree.specs.Store.{Store}
use Rattle.weighted_tree.specs.New as new
use Rattle.weighted_tree.specs.IsValid as is_valid
use Rattle.weighted_tree.specs.Get as get
use Rattle.weighted_tree.specs.Pop as pop
use Rattle.weighted_tree.specs.Push as push
use Rattle.weighted_tree.specs.Update as update
use Rattle.weighted_tree.specs.Walk as walk
use Rattle.weighted_tree.specs.Draw as draw
use Rattle.weighted_tree.specs.IsSound as is_sound
use Rattle.weighted_alias.specs.Tests.{Slots}
use Rattle.weighted_alias.specs.WeightSum as weight_sum
use Rattle.weighted_alias.specs.New as alias_new
use Rattle.weighted_alias.specs.Draw as alias_draw
use Rattle.alias_checker.specs.Check as alias_check
use Rattle.alias_checker.specs.Weights as alias_weights
use Rattle.binomial.specs.declared.Method.{Method}
use Rattle.binomial.specs.New as setup
use Rattle.binomial.specs.Draw as binv
use Rattle.ziggurat.specs.declared.Rounded.{Rounded}
use Rattle.ziggurat.specs.declared.Rounding.{Rounding}
use Rattle.ziggurat.specs.Round as round

-- ---- answers that a contract gives by an equation: every `numbers` and `number` of the answers, `counting::sum`, both calls of `big_endian`,
-- and the floats of `words`
pub by_equation : {A : Type 0} {value a b : A} → a ≡ value → b ≡ value → a ≡ b
by_equation p q = p ∙ sym q

pub ended_determined : {o : Result ℕ Refusal} {used : ℕ} {a b : Drawing} → Ended o used a → Ended o used b → a ≡ b
ended_determined p q = drawing_determined _ _ (ap tells p.same) (ap tells q.same) p.words q.words

-- ---- a number from words
pub number_below_determined : {pool : List ℕ} {T : ℕ} {a b : Result (ℕ × ℕ) Refusal} → below.Promise pool T a → below.Promise pool T b → a ≡ b
number_below_determined p q = answer_determined _ _ p.answer q.answer

-- ---- the tree
module _ {s : Store} where
  pub new_determined : {ws : List ℕ} {a b : Result ℕ Refusal} {x y : Store} → new.Promise s ws a x → new.Promise s ws b y → (a ≡ b) × (x ≡ y)
  new_determined p q = (answer_determined _ _ p.answer q.answer, by_equation p.store q.store)

  module _ {n : ℕ} where
    pub is_valid_determined : {a b : Result Bool Refusal} → is_valid.Promise s n a → is_valid.Promise s n b → a ≡ b
    is_valid_determined p q = answer_determined _ _ p.answer q.answer

    pub get_determined : {i : ℕ} {a b : Result ℕ Refusal} → get.Promise s n i a → get.Promise s n i b → a ≡ b
    get_determined p q = answer_determined _ _ p.answer q.answer

    pub pop_determined : {a b : Result (ℕ × ℕ) Refusal} {x y : Store} → pop.Promise s n a x → pop.Promise s n b y → (a ≡ b) × (x ≡ y)
    pop_determined p q = (answer_determined _ _ p.answer q.answer, by_equation p.store q.store)

    pub push_determined : {w : ℕ} {a b : Result ℕ Refusal} {x y : Store} → push.Promise s n w a x → push.Promise s n w b y → (a ≡ b) × (x ≡ y)
    push_determined p q = (answer_determined _ _ p.answer q.answer, by_equation p.store q.store)

    pub update_determined : {i w : ℕ} {a b : Result ℕ Refusal} {x y : Store} → update.Promise s n i w a x → update.Promise s n i w b y → (a ≡ b) × (x ≡ y)
    update_determined p q = (answer_determined _ _ p.answer q.answer, by_equation p.store q.store)

    pub walk_determined : {t : ℕ} {a b : Result ℕ Refusal} → walk.Promise s n t a → walk.Promise s n t b → a ≡ b
    walk_determined p q = answer_determined _ _ p.answer q.answer

    pub draw_determined : {pool : List ℕ} {a b : Drawing} → draw.Promise s n pool a → draw.Promise s n pool b → a ≡ b
    draw_determined p q = drawing_determined _ _ p.answer q.answer p.words q.words

    pub is_sound_determined : {a b : Result Bool Refusal} → is_sound.Promise s n a → is_sound.Promise s n b → a ≡ b
    is_sound_determined p q = answer_determined _ _ p.answer q.answer

-- ---- the alias table
pub slots_determined : {n : ℕ} {unequal : Bool} {a b : Result ℕ Refusal} → Slots n unequal a → Slots n unequal b → a ≡ b
slots_determined p q = answer_determined _ _ p.answer q.answer

pub weight_sum_determined : {ws : List ℕ} {a b : Result ℕ Refusal} → weight_sum.Promise ws a → weight_sum.Promise ws b → a ≡ b
weight_sum_determined p q = answer_determined _ _ p.answer q.answer

pub alias_new_determined : {ws odds links : List ℕ} {a b : Result ℕ Refusal} {x y z w : List ℕ} → alias_new.Promise ws odds links a x z → alias_new.Promise ws odds links b y w → (a ≡ b) × (x ≡ y) × (z ≡ w)
alias_new_determined p q =
    (answer_determined _ _ p.answer q.answer, by_equation p.odds_are q.odds_are, by_equation p.links_are q.links_are)

pub alias_draw_determined : {odds links pool : List ℕ} {S : ℕ} {a b : Drawing} → alias_draw.Promise odds links S pool a → alias_draw.Promise odds links S pool b → a ≡ b
alias_draw_determined p q = drawing_determined _ _ p.answer q.answer p.words q.words

pub alias_check_determined : {ws odds links work : List ℕ} {a b : Result Bool Refusal} {x y : List ℕ} → alias_check.Promise ws odds links work a x → alias_check.Promise ws odds links work b y → (a ≡ b) × (x ≡ y)
alias_check_determined p q = (answer_determined _ _ p.answer q.answer, by_equation p.work_is q.work_is)

pub alias_weights_determined : {odds links output : List ℕ} {S : ℕ} {a b : Result ℕ Refusal} {x y : List ℕ} → alias_weights.Promise odds links S output a x → alias_weights.Promise odds links S output b y → (a ≡ b) × (x ≡ y)
alias_weights_determined p q = (answer_determined _ _ p.answer q.answer, by_equation p.output_is q.output_is)

-- ---- the binomial setup and draw
pub setup_determined : {n : ℕ} {x : Float} {a b : Result Method Refusal} → setup.Promise n x a → setup.Promise n x b → a ≡ b
setup_determined p q = answer_determined _ _ p.answer q.answer

pub binv_determined : {m : Method} {pool : List ℕ} {a b : Drawing} → binv.Promise m pool a → binv.Promise m pool b → a ≡ b
binv_determined p q = drawing_determined _ _ p.answer q.answer p.words q.words

-- ---- a ziggurat round
abbrev ended : Result Rounded Refusal → ℕ → Rounding
ended o k = record { outcome = o; words = k }

pub round_determined : {symmetric : Bool} {X F : List Float} {pool : List ℕ} {a b : Rounding} → round.Promise symmetric X F pool a → round.Promise symmetric X F pool b → a ≡ b
round_determined {symmetric} {X} {F} {pool} {a} {b} p q =
    ap (λ (o : Result Rounded Refusal). ended o a.words) (answer_determined a.outcome b.outcome p.answer q.answer)
    ∙ ap (ended b.outcome) (by_equation p.words q.words)
