-- What the calls that change a store promise: where one is refused, the store as it was; else the change. From the order of the refusals, once
-- for all of them, since each call promises what its order says. Assumes nothing.
use Rattle.std.proofs.Common.{ℕ, ◌+◌, ◌-◌, Bool, true, ◌≡◌, List, length}
use Rattle.std.specs.Prelude.{Result, Ok, Err}
use Rattle.refusal.specs.Number.{number}
use Rattle.refusal.specs.Answers.{tells}
use Rattle.refusal.specs.Outcome.{gave, in_order, leaves, Exactly, None}
use Rattle.refusal.specs.declared.Refusal.{Refusal}
use Rattle.refusal.proofs.Order.{once, kept, done}
use Rattle.weighted_tree.specs.Store.{Store, weight_at}
use Rattle.weighted_tree.specs.New as new
use Rattle.weighted_tree.specs.Pop as pop
use Rattle.weighted_tree.specs.Push as push
use Rattle.weighted_tree.specs.Update as update

-- an answer and a store that are as an order of refusals says make a promise
pub record Says {A : Type 0} (rs : List (ℕ × Bool)) (v : A) (changed s : Store) (Promise : Result A Refusal → Store → Type 0) : Type 0 where
  pub keeps : (r : Result A Refusal) (after : Store) → tells r ≡ in_order rs (gave v) → after ≡ leaves (in_order rs (gave v)) changed s → Promise r after

module _ {A : Type 0} {rs : List (ℕ × Bool)} {v : A} {changed s : Store} {Promise : Result A Refusal → Store → Type 0} (says : Says rs v changed s Promise) where
  pub call_refused : (r : Refusal) → once (number r) rs ≡ true → Exactly (number r) rs → Promise (Err r) s
  call_refused r o x = let p = kept rs v changed s (number r) o x in says.keeps _ _ p.0 p.1

  pub call_done : None rs → (x : A) (after : Store) → x ≡ v → after ≡ changed → Promise (Ok x) after
  call_done n x after e k = let p = done rs v changed s n in rw (e, k) (says.keeps _ _ p.0 p.1)

pub new_says : (s : Store) (ws : List ℕ) → Says (new.refusals s ws) (length ws) (new.changed s ws) s (new.Promise s ws)
unfolding new.rule
new_says s ws = record { keeps = λ r after e k. record { answer = e; store = k } }

pub pop_says : (s : Store) (n : ℕ) → Says {A = ℕ × ℕ} (pop.refusals s n) (weight_at s n (n - 1), n - 1) (pop.changed s n) s (pop.Promise s n)
unfolding pop.rule
pop_says s n = record { keeps = λ r after e k. record { answer = e; store = k } }

pub push_says : (s : Store) (n w : ℕ) → Says (push.refusals s n w) (n + 1) (push.changed s n w) s (push.Promise s n w)
unfolding push.rule
push_says s n w = record { keeps = λ r after e k. record { answer = e; store = k } }

pub update_says : (s : Store) (n i w : ℕ) → Says (update.refusals s n i w) n (update.changed s n i w) s (update.Promise s n i w)
unfolding update.rule
update_says s n i w = record { keeps = λ r after e k. record { answer = e; store = k } }
