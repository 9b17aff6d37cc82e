-- The parts follow each other as in the definition, and none of them shows what the lent slices held.
use Rattle.std.proofs.Common.{◌≡◌, ◌∙◌, ℕ, List, length, ap, refl, arith, rules}
use Rattle.weighted_alias.specs.New.{Fills, pair_up, paired, scaled, odds_of, links_of}
use Rattle.weighted_alias.specs.Lists.{Heads, heads, listed, Split, Left}
use Rattle.weighted_alias.proofs.Settles.{split_ready, pairs_as, settles_small, settles_big, odds_made, links_made}
use Rattle.weighted_alias.proofs.fill.Goals as goal
use Rattle.weighted_alias.proofs.fill.Goals.{After-pair_up, After-settle-2}

-- what the split leaves is paired as in the definition
paired_is : (S n : ℕ) (ws odds links links' : List ℕ) (h : Heads) → Split S odds links (length odds) links' h → Fills ws n (length links) S → length odds ≡ n → odds ≡ scaled ws
    → pair_up (length odds) S (listed odds links' h) ≡ paired ws
paired_is S n ws odds links links' h k f long e =
    pairs_as S odds links links' h k (omega (arith, f.odds_long, f.links_long)) (omega (arith, f.odds_long, f.few)) ws f.sum e (omega (arith, f.odds_long))

-- what the pairing leaves
left : (c : After-pair_up) → Left (paired c.args.weights.now) c.pair_up.new.self.odds.now c.pair_up.new.self.links.now (heads c.pair_up.new.self)
left c =
    let e = c.split-aliases.ensures in
    let is = paired_is _ _ _ _ _ _ _ e.listed c.requires c.scale.auto.odds c.scale.ensures in
    rw (← is) (rw (e.odds.1, e.sum) at c.pair_up.ensures.left)

pub pair_up-requires : goal.pair_up-requires
pair_up-requires c =
    let e = c.split-aliases.ensures in
    rw (e.odds.1, e.sum) (split_ready _ _ _ _ _ e.listed (omega arith) (omega arith))

pub settle-requires : goal.settle-requires
settle-requires c =
    let size = ap length c.split-aliases.ensures.odds.1 in
    settles_small _ _ refl _ _ _ (left (goal.at.settle-requires c).After-pair_up) (omega arith) (omega arith)

pub settle-requires-2 : goal.settle-requires-2
settle-requires-2 c =
    let size = ap length c.split-aliases.ensures.odds.1 in
    rw c.settle.ensures.links_are (settles_big _ _ refl _ _ _ (left (goal.at.settle-requires-2 c).After-pair_up) (omega arith) (omega arith) _ c.settle.ensures.long)

-- what the settling leaves
made : (c : After-settle-2) → (c.settle-2.new.self.odds.now ≡ odds_of c.args.weights.now) × (c.settle-2.new.self.links.now ≡ links_of c.args.weights.now)
made c =
    let size = ap length c.split-aliases.ensures.odds.1 in
    let l = left (goal.at.After-settle-2 c).After-pair_up in
    let one = c.settle.ensures in
    let sum = c.pair_up.ensures.kept.sum ∙ c.split-aliases.ensures.sum ∙ c.requires.sum in (
      odds_made _ _ refl _ _ _ l (omega arith) (omega arith) _ _ _ sum one.long one.odds_are (rw (one.links_are, one.kept.sum) at c.settle-2.ensures.odds_are),
      c.settle-2.ensures.links_are ∙ one.links_are ∙ links_made _ _ refl _ _ _ l (omega arith) (omega arith),
    )

pub returns : goal.returns
returns c =
    let m = made (goal.at.returns c).After-settle-2 in search rules
