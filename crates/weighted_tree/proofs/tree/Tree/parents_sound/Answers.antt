-- Each parent lies below the most slots, so that its children can be looked at; and the answer is that of the path.
use Rattle.std.proofs.Common.{◌≡◌, true, false, ◌<◌, arith, rules, refl}
use Rattle.std.proofs.lemmas.Iterator.{cases_from_all}
use Rattle.std.proofs.lemmas.Iterator.Consumers.{YieldsList-from_first}
use Rattle.weighted_tree.specs.Store.{sound_at}
use Rattle.weighted_tree.specs.Path.{parents}
use Rattle.weighted_tree.proofs.Climb.{climbs}
use Rattle.weighted_tree.proofs.Chains.{still_below, all_sound_is}
use Rattle.weighted_tree.proofs.tree.Tree.parents_sound.Goals as goal

pub all-requires-clause-callable : goal.all-requires-clause-callable
all-requires-clause-callable c = record {
  at = λ xs t q x u e f y.
      let below = still_below _ _ _ e in
      let h : x < 4096 = omega (arith, below, climbs t.0 x u.0 y) in
      search (rules, h);
}

pub returns : goal.returns
returns c =
    let s = c.args.self.now.store.now in
    let n = c.args.self.now.count in
    all_sound_is _ _ _ _
    (cases_from_all _ _ _ (λ i. sound_at s n i ≡ true) (λ i. sound_at s n i ≡ false) c.all.ensures.ran
    (YieldsList-from_first (λ x. x) (λ p. parents p.0) _ refl) (λ x q k. search rules) (λ x q k. search rules))
