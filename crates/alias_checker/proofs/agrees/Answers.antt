-- Each product that the closure takes is a u64, and the answer is that of all pairs of a cell and a weight.
use Rattle.std.proofs.Common.{◌≡◌, ◌*◌, length, rules}
use Rattle.std.proofs.lemmas.Iterator.{YieldsList-from_slice, YieldsList-from_zip, cases_from_all}
use Rattle.std.proofs.lemmas.Iterator.Adapters.{serves_from_places}
use Rattle.alias_checker.proofs.Agreeing.{product_fits, agreed_all}
use Rattle.alias_checker.proofs.agrees.Goals as goal

pub all-requires-clause-callable : goal.all-requires-clause-callable
all-requires-clause-callable c =
    serves_from_places (YieldsList-from_zip (YieldsList-from_slice c.args.cells.now cc) (YieldsList-from_slice c.args.weights.now cc)) (λ x q k. search rules)
    (λ x k h e. let fits = product_fits c.args.cells.now c.args.weights.now k (x.0.now, x.1.now) c.requires.1 h e in search rules)

pub returns : goal.returns
returns c =
    let n = length c.args.weights.now in
    agreed_all _ _ _ c.requires.0
    (cases_from_all c.all.new.self _ _ (λ p. p.0 ≡ n * p.1) (λ p. p.0 ≡ n * p.1 → ⊥) c.all.ensures.ran
    (YieldsList-from_zip (YieldsList-from_slice c.args.cells.now cc) (YieldsList-from_slice c.args.weights.now cc)) (λ x q k. search rules) (λ x q k. search rules))
