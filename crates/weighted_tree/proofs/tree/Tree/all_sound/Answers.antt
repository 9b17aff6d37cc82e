-- The cells come from the last down to cell 0, and the answer is that of all of them.
use Rattle.std.proofs.Common.{◌≡◌, true, false, rules}
use Rattle.std.proofs.lemmas.Iterator.{cases_from_all}
use Rattle.weighted_tree.specs.Store.{sound_at}
use Rattle.weighted_tree.proofs.Chains.{all_down, all_sound_is}
use Rattle.weighted_tree.proofs.tree.Tree.all_sound.Goals as goal

pub returns : goal.returns
returns c =
    let s = c.args.self.now.store.now in
    let n = c.args.self.now.count in
    all_sound_is _ _ _ _
    (cases_from_all _ _ _ (λ i. sound_at s n i ≡ true) (λ i. sound_at s n i ≡ false) c.all.ensures.ran
    (all_down _ _ c.rev.ensures.source) (λ x q k. search rules) (λ x q k. search rules))
