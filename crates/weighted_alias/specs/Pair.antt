-- What a pair of a slot and a number draws from a table.
use Rattle.std.specs.Prelude.{ℕ, Bool, cond, ◌&&◌, List, [], ◌∷◌, ltb, leb, length, get_or}
use Rattle.refusal.specs.Outcome.{Outcome, gave, in_order}

-- the pair (c, t) draws c if t is below odds c, else link c
unfoldable pub drawn_by : List ℕ → List ℕ → ℕ → ℕ → ℕ
drawn_by odds links c t = cond (ltb t (get_or odds c 0)) c (get_or links c 0)

-- 13: the link that is followed is n or more
unfoldable pub far_link : List ℕ → List ℕ → ℕ → ℕ → Bool
far_link odds links c t = leb (get_or odds c 0) t && leb (length odds) (get_or links c 0)

-- what the pair comes to
unfoldable pub pair_end : List ℕ → List ℕ → ℕ → ℕ → Outcome ℕ
pair_end odds links c t = in_order ((13, far_link odds links c t) ∷ []) (gave (drawn_by odds links c t))
