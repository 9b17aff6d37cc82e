-- The numbers that bytes spell, the highest byte first.
use Rattle.std.specs.Prelude.{ℕ, ◌+◌, ◌*◌, cond, List, [], ◌∷◌, ltb, length, take, drop}

-- bytes that follow a number
unfoldable pub onward : ℕ → List ℕ → ℕ
onward n [] = n
onward n (b ∷ bs) = onward (n * 256 + b) bs

abbrev pub from_bytes : List ℕ → ℕ
from_bytes bytes = onward 0 bytes

-- words that begin with the numbers of bytes, each of the same width, as far as both go; of a wider number than a word its first eight bytes count
unfoldable pub spelled : ℕ → List ℕ → List ℕ → List ℕ
spelled width [] bytes = []
spelled width (word ∷ words) bytes =
    cond (ltb (length bytes) width) (word ∷ words) (from_bytes (take 8 (take width bytes)) ∷ spelled width words (drop width bytes))
