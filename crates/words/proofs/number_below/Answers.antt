-- Below no total there is nothing; else the search through the pool finds the first accepted word, or there is none.
use Rattle.std.proofs.Common.{rules}
use Rattle.words.proofs.Place.{place_none, nothing, taken_at, searched}
use Rattle.words.proofs.number_below.Goals as goal

pub returns-then-total-eq0 : goal.returns-then-total-eq0
returns-then-total-eq0 c = nothing _ _ (place_none _ _ c.if-total-eq0.true)

pub returns-in_err-before : goal.returns-in_err-before
returns-in_err-before c =
    let at = searched _ _ _ _ c.if-total-eq0.false c.spill.ensures c.skipped.ensures in search (rules, nothing, at)

pub returns : goal.returns
returns c =
    let at = searched _ _ _ _ c.if-total-eq0.false c.spill.ensures c.skipped.ensures in search (rules, taken_at, at)
