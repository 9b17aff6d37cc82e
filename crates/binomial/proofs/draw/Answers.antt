-- The draw answers and reports what was drawn.
use Rattle.binomial.proofs.Promised.{draw_is}
use Rattle.binomial.proofs.draw.Goals as goal

pub returns : goal.returns
returns c = draw_is _ _ _ c.drawn.ensures _ c.from.ensures
