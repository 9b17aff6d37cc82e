-- Each refusal follows from the tests passed before and the one that failed; the weights are copied to the front of the store, where their sum
-- is a u64, and gathered.
use Rattle.std.proofs.Common.{◌≡◌, true, false, ◌<◌, ◌-◌, ◌^◌, length, length-append, arith, rules, sym, refl, ap, ◌∙◌}
use Rattle.std.specs.Prelude.{Some, None}
use Rattle.counting.specs.Sum.{sum_of, exceeds_u64}
use Rattle.counting.proofs.Sums.{exceeds_means, sum_means, fits_u64}
use Rattle.refusal.specs.declared.Refusal.TheVariants.{Full, Overflow}
use Rattle.weighted_tree.specs.New as new
use Rattle.weighted_tree.specs.Tests.{bad_count}
use Rattle.weighted_tree.proofs.Cells.{good_count}
use Rattle.weighted_tree.proofs.Gathers.{copied}
use Rattle.weighted_tree.proofs.Promised.{call_refused, call_done, new_says}
use Rattle.weighted_tree.proofs.new.Goals as goal
use Rattle.weighted_tree.proofs.new.Goals.{In_ok-map_err, In_ok-ok_or}

-- what is known where each test is passed
good : (c : In_ok-map_err) → bad_count c.args.store.now (length c.args.weights.now) ≡ false
good c = search rules

fits : (c : In_ok-ok_or) → exceeds_u64 (sum_of c.args.weights.now) ≡ false
fits c =
    let sum : c.sum.result ≡ Some c.in_ok-ok_or.field-0 = grind arith in
    (sum_means _ _ (sym sum ∙ c.sum.ensures)).0

pub returns-in_err-map_err : goal.returns-in_err-map_err
returns-in_err-map_err c =
    let p = λ (b : bad_count c.args.store.now (length c.args.weights.now) ≡ true). call_refused (new_says _ _) Full refl b in search (rules, p)

pub returns-in_err-ok_or : goal.returns-in_err-ok_or
returns-in_err-ok_or c =
    let none : c.sum.result ≡ None = grind arith in
    let exceeds = exceeds_means _ (sym none ∙ c.sum.ensures) in
    let p = call_refused (new_says _ _) Overflow refl (good (goal.at.returns-in_err-ok_or c).In_ok-map_err, exceeds) in search (rules, p)

pub gather-requires : goal.gather-requires
gather-requires c =
    let at = goal.at.gather-requires c in
    let room = good_count _ _ (good at.In_ok-map_err) in
    let sum : sum_of c.args.weights.now < 2 ^ 64 = fits_u64 _ (fits at.In_ok-ok_or) in
    (rw c.copy_in.ensures (simp length-append (omega arith)), copied _ _ _ c.copy_in.ensures sum)

pub returns : goal.returns
unfolding new.changed
returns c =
    let at = goal.at.returns c in
    let gathered = c.gather.ensures ∙ ap (new.gathered (length c.args.weights.now - 1)) c.copy_in.ensures in
    call_done (new_says _ _) (good at.In_ok-map_err, (fits at.In_ok-ok_or, tt)) _ _ refl gathered
