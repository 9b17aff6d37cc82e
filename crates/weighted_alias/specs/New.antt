-- new: the table that the builder writes, and what it answers.
use Rattle.std.specs.Prelude.{ℕ, zero, suc, ◌+◌, ◌-◌, ◌*◌, ◌<◌, ◌≤◌, ◌^◌, Bool, cond, ◌||◌, ◌≡◌, List, [], ◌∷◌, map, ltb, length, get_or, set, replicate}
use Rattle.counting.specs.Sum.{sum_of}
use Rattle.refusal.specs.Outcome.{Outcome, gave, in_order, leaves}
use Rattle.refusal.specs.Answers.{tells}
use Rattle.weighted_alias.specs.Tests.{no_slots, too_heavy, no_total, too_many, bad_length}
use Rattle.std.specs.Prelude.{Result}
use Rattle.refusal.specs.declared.Refusal.{Refusal}

-- a table in the making: a slot that is not done is on one of two lists
pub record Making : Type 0 where
  pub odds : List ℕ
  pub links : List ℕ
  pub small : List ℕ
  pub big : List ℕ

abbrev pub making : List ℕ → List ℕ → List ℕ → List ℕ → Making
making odds links small big = record { odds = odds; links = links; small = small; big = big }

-- a list's head, or the mark of its end
abbrev pub head_of : List ℕ → ℕ
head_of [] = 4294967295
head_of (x ∷ xs) = x

-- a slot goes on the head of the small list if its odds are below S, else of the big list; its link is the head that was there
abbrev pub on_small : ℕ → Making → Making
on_small x t = making t.odds (set t.links x (head_of t.small)) (x ∷ t.small) t.big

abbrev pub on_big : ℕ → Making → Making
on_big x t = making t.odds (set t.links x (head_of t.big)) t.small (x ∷ t.big)

abbrev pub push : ℕ → ℕ → Making → Making
push S x t = cond (ltb (get_or t.odds x 0) S) (on_small x t) (on_big x t)

-- the slots below a number are put on the lists in index order
unfoldable pub split : ℕ → ℕ → Making → Making
split S zero t = t
split S (suc i) t = push S i (split S i t)

-- both heads s and b are taken: s is linked to b, odds b become odds b - S + odds s, and b goes on the list that its new odds say. Where a list has no member, nothing
abbrev pub pair_heads : ℕ → List ℕ → List ℕ → Making → Making
pair_heads S [] bs t = t
pair_heads S (s ∷ ss) [] t = t
pair_heads S (s ∷ ss) (b ∷ bs) t =
    push S b (making (set t.odds b (get_or t.odds b 0 - S + get_or t.odds s 0)) (set t.links s b) ss bs)

-- while both lists have a member, in at most k turns
unfoldable pub pair_up : ℕ → ℕ → Making → Making
pair_up zero S t = t
pair_up (suc k) S t = pair_up k S (pair_heads S t.small t.big t)

-- the slots of a list get odds S
unfoldable pub settle : ℕ → List ℕ → List ℕ → List ℕ
settle S [] odds = odds
settle S (x ∷ xs) odds = settle S xs (set odds x S)

-- the odds begin as n times the weight
unfoldable pub scaled : List ℕ → List ℕ
scaled ws = map (λ w. length ws * w) ws

-- no slot is on a list yet, and no link is set
abbrev pub begun : List ℕ → Making
begun ws = making (scaled ws) (replicate (length ws) 0) [] []

unfoldable pub paired : List ℕ → Making
paired ws = pair_up (length ws) (sum_of ws) (split (sum_of ws) (length ws) (begun ws))

-- the table: slots that remain on a list get odds S, and their links keep what the lists wrote there
unfoldable pub odds_of : List ℕ → List ℕ
odds_of ws = settle (sum_of ws) (paired ws).big (settle (sum_of ws) (paired ws).small (paired ws).odds)

unfoldable pub links_of : List ℕ → List ℕ
links_of ws = (paired ws).links

-- builder 1, 10, 14, 2, 3
abbrev pub refusals : List ℕ → ℕ → ℕ → List (ℕ × Bool)
refusals ws odds links =
    (1, no_slots (length ws))
    ∷ (10, too_many (length ws))
    ∷ (14, bad_length (length ws) odds || bad_length (length ws) links)
    ∷ (2, too_heavy ws)
    ∷ (3, no_total (sum_of ws))
    ∷ []

-- S, where `odds` and `links` are the lengths lent
unfoldable pub rule : List ℕ → ℕ → ℕ → Outcome ℕ
rule ws odds links = in_order (refusals ws odds links) (gave (sum_of ws))

pub record Promise (ws odds links : List ℕ) (r : Result ℕ Refusal) (odds_after links_after : List ℕ) : Type 0 where
  pub answer : tells r ≡ rule ws (length odds) (length links)
  pub odds_are : odds_after ≡ leaves (rule ws (length odds) (length links)) (odds_of ws) odds
  pub links_are : links_after ≡ leaves (rule ws (length odds) (length links)) (links_of ws) links

-- ---- what the code's parts want of weights that are not refused
abbrev pub Scales : List ℕ → Type 0
Scales ws = (i : ℕ) → i < length ws → length ws * get_or ws i 0 < 2 ^ 64

pub record Fills (ws : List ℕ) (odds links S : ℕ) : Type 0 where
  pub few : length ws ≤ 4096
  pub odds_long : odds ≡ length ws
  pub links_long : links ≡ length ws
  pub sum : S ≡ sum_of ws
  pub scales : Scales ws
