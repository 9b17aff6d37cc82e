-- The magnitude is what `abs` answers. Assumes nothing.
use Rattle.std.proofs.Common.{◌≡◌, refl, false}
use lib.Ieee.{Float, nan, inf, fin}
use Rattle.std.specs.Float.{float_with_sign}
use Rattle.ziggurat.specs.Round.{magnitude}

pub magnitude_is : (x : Float) → float_with_sign false x ≡ magnitude x
unfolding float_with_sign
magnitude_is nan = refl
magnitude_is (inf s) = refl
magnitude_is (fin s m e) = refl
