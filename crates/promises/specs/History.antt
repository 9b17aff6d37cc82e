-- A tree that one call after the other gets as its store: what a call may leave, and the weights as they were last given.
use Rattle.std.specs.Prelude.{ℕ, Bool, ◌-◌, ◌≡◌, List, [], ◌∷◌, ◌++◌, length, set, take, Result}
use Rattle.refusal.specs.Outcome.{Outcome, gave, refused, leaves}
use Rattle.refusal.specs.Answers.{tells}
use Rattle.refusal.specs.declared.Refusal.{Refusal}
use Rattle.refusal.specs.declared.Drawing.{Drawing}
use Rattle.weighted_tree.specs.Store.{Store}
use Rattle.weighted_tree.specs.New as new
use Rattle.weighted_tree.specs.IsValid as is_valid
use Rattle.weighted_tree.specs.Get as get
use Rattle.weighted_tree.specs.Pop as pop
use Rattle.weighted_tree.specs.Push as push
use Rattle.weighted_tree.specs.Update as update
use Rattle.weighted_tree.specs.Walk as walk
use Rattle.weighted_tree.specs.Draw as draw
use Rattle.weighted_tree.specs.IsSound as is_sound
use Rattle.promises.specs.Tree.{count_left}

-- the calls that get a tree as their store, with what they are handed beside it and the count
pub data Call : Type 0 where
  making : List ℕ → Call
  pushing : ℕ → Call
  popping : Call
  updating : ℕ → ℕ → Call
  validity : Call
  getting : ℕ → Call
  walking : ℕ → Call
  drawing : List ℕ → Call
  soundness : Call

-- a tree between two calls: its store, the count that the last call left, and the weight last given to each index
pub record State : Type 0 where
  pub store : Store
  pub count : ℕ
  pub weights : List ℕ

-- the weights that a call gives, from its arguments alone
abbrev pub given : Call → List ℕ → List ℕ
given (making vs) ws = vs
given (pushing w) ws = ws ++ (w ∷ [])
given popping ws = take (length ws - 1) ws
given (updating i w) ws = set ws i w
given validity ws = ws
given (getting i) ws = ws
given (walking t) ws = ws
given (drawing pool) ws = ws
given soundness ws = ws

-- the number that a call tells: 0, or that of its refusal
abbrev pub told : {A : Type 0} → Outcome A → ℕ
told (gave v) = 0
told (refused k) = k

-- what a call that came to an outcome leaves: the count that it answers, and the weights that it gives; where it is refused, those that were
pub record After {A : Type 0} (c : Call) (o : Outcome A) (counted : A → ℕ) (t : State) (number : ℕ) (t' : State) : Type 0 where
  pub tells : number ≡ told o
  pub count_is : t'.count ≡ count_left counted o t.count
  pub weights_are : t'.weights ≡ leaves o (given c t.weights) t.weights

-- one call from a state to the next, and the number that it tells: any answer and any store that its promise allows
abbrev pub Step : Call → State → ℕ → State → Type 0
Step (making ws) t k t' = (r : Result ℕ Refusal) × new.Promise t.store ws r t'.store × After (making ws) (tells r) (λ m. m) t k t'
Step (pushing w) t k t' = (r : Result ℕ Refusal) × push.Promise t.store t.count w r t'.store × After (pushing w) (tells r) (λ m. m) t k t'
Step popping t k t' = (r : Result (ℕ × ℕ) Refusal) × pop.Promise t.store t.count r t'.store × After popping (tells r) (λ v. v.1) t k t'
Step (updating i w) t k t' = (r : Result ℕ Refusal) × update.Promise t.store t.count i w r t'.store × After (updating i w) (tells r) (λ m. t.count) t k t'
Step validity t k t' = (r : Result Bool Refusal) × (is_valid.Promise t.store t.count r × (t'.store ≡ t.store)) × After validity (tells r) (λ b. t.count) t k t'
Step (getting i) t k t' = (r : Result ℕ Refusal) × (get.Promise t.store t.count i r × (t'.store ≡ t.store)) × After (getting i) (tells r) (λ w. t.count) t k t'
Step (walking x) t k t' = (r : Result ℕ Refusal) × (walk.Promise t.store t.count x r × (t'.store ≡ t.store)) × After (walking x) (tells r) (λ i. t.count) t k t'
Step (drawing pool) t k t' = (r : Drawing) × (draw.Promise t.store t.count pool r × (t'.store ≡ t.store)) × After (drawing pool) (tells r.outcome) (λ i. t.count) t k t'
Step soundness t k t' = (r : Result Bool Refusal) × (is_sound.Promise t.store t.count r × (t'.store ≡ t.store)) × After soundness (tells r) (λ b. t.count) t k t'

-- a making that was not refused, over any store
pub record Begun (t : State) : Type 0 where
  pub found : Store
  pub answer : Result ℕ Refusal
  pub promise : new.Promise found t.weights answer t.store
  pub made : tells answer ≡ gave t.count

-- calls one after the other, each with the number that it told
unfoldable pub History : State → List (Call × ℕ) → State → Type 0
History t [] t' = t ≡ t'
History t ((c, k) ∷ later) t' = (u : State) × Step c t k u × History u later t'

-- no call of a list told the number j
abbrev pub NeverTold : ℕ → List (Call × ℕ) → Type 0
NeverTold j [] = Unit {0}
NeverTold j ((c, k) ∷ later) = (k ≡ j → ⊥) × NeverTold j later
