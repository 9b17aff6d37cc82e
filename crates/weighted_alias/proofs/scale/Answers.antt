-- Every slot's odds are scaled.
use Rattle.std.proofs.Common.{arith}
use Rattle.weighted_alias.proofs.Scales.{scaled_all}
use Rattle.weighted_alias.proofs.scale.Goals as goal

pub returns : goal.returns
returns c = scaled_all _ _ _ _ c.requires.0 c.loop-i.invariant (omega arith)
