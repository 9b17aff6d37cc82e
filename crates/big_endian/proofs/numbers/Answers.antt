-- A number is written in its place, too few bytes end the loop, and so does the last word.
use Rattle.std.proofs.Common.{◌∙◌, arith}
use Rattle.std.proofs.lemmas.List.{set-get_or}
use Rattle.big_endian.proofs.Fills.{fill_step, fill_short, fill_end}
use Rattle.big_endian.proofs.numbers.Goals as goal

pub returns-in_default : goal.returns-in_default
returns-in_default c = set-get_or _ _ 0 ∙ fill_short _ _ _ _ c.loop-word.rest.now c.loop-word.word-index c.loop-word.invariant c.in_default.ensures.cases

pub loop-word-preserved : goal.loop-word-preserved
loop-word-preserved c = fill_step _ _ _ _ c.loop-word.rest.now c.loop-word.word-index _ _ _ c.loop-word.invariant (omega arith) c.in-Some.ensures.cases c.number.ensures

pub returns : goal.returns
returns c = fill_end _ _ _ _ c.loop-word.rest.now c.loop-word.word-index c.loop-word.invariant (omega arith)
