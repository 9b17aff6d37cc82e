-- The count of a draw is at most n, whatever floats the setup holds. And a draw whose words stand beside the count. Assumes nothing.
use Rattle.std.proofs.Common.{ℕ, ◌-◌, ◌≤◌, ◌≡◌, refl, sym, ap, ◌∙◌, Bool, true, false, cond, List, arith, get_or}
use Rattle.std.specs.Prelude.{Option, Some, None, Result, Ok}
use Rattle.refusal.specs.Answers.{tells, drawing}
use Rattle.refusal.specs.declared.Drawing.{Drawing}
use Rattle.refusal.specs.declared.Refusal.{Refusal}
use Rattle.refusal.proofs.Draws.{draws}
use Rattle.refusal.proofs.Order.{given_means}
use Rattle.words.specs.Floats.{unit}
use Rattle.binomial.specs.declared.Binv.{Binv}
use Rattle.binomial.specs.declared.Method.{Method}
use Rattle.binomial.specs.declared.Method.TheVariants as method
use Rattle.binomial.specs.Attempt.{attempt_by, ended_at}
use Rattle.binomial.specs.Draw as draw
use Rattle.binomial.specs.Draw.{attempts}
use Rattle.binomial.proofs.Attempts.{attempt_within}

last_within : (b : Binv) (t : Option ℕ) → ((x : ℕ) → t ≡ Some x → x ≤ b.n) → ended_at t ≤ b.n
last_within b (Some x) h = h x refl
last_within b None h = omega arith

flip_within : (flip : Bool) (n x : ℕ) → x ≤ n → cond flip (n - x) x ≤ n
flip_within true n x h = omega arith
flip_within false n x h = h

-- n, or the constant
pub count_at_most : (m : Method) (pool : List ℕ) → draw.count m pool ≤ draw.most m
count_at_most (method.Constant c) pool = omega arith
count_at_most (method.Binv b) pool =
    let w = get_or pool (attempts b pool - 1) 0 in
    flip_within b.flip b.n (draw.last_attempt b pool) (last_within b (attempt_by b w) (λ x e. (attempt_within b (unit w) x e).1))

-- and so is what a draw answers
pub drawn_at_most : (m : Method) (pool : List ℕ) (d : Drawing) → draw.Promise m pool d → (c : ℕ) → d.outcome ≡ Ok c → c ≤ draw.most m
unfolding draw.rule
drawn_at_most m pool d p c e =
    let gives = given_means (draw.refusals m pool) (draw.count m pool) c (sym p.answer ∙ ap tells e) in
    rw gives.1 at (count_at_most m pool)

-- ---- a draw with its words beside the count
pub draw_is : (m : Method) (pool : List ℕ) (o : Result (ℕ × ℕ) Refusal) → tells o ≡ draw.drawn m pool → (d : Drawing) → d ≡ drawing o → draw.Promise m pool d
unfolding draw.drawn draw.rule
draw_is m pool o e d h =
    let is = draws (draw.refusals m pool) (draw.count m pool) (draw.used m pool) o e d h in
    record { answer = is.0; words = is.1 }
