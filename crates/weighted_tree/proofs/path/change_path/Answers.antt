-- The cell first, then its parents, which that change does not touch.
use Rattle.std.proofs.Common.{length-set, arith}
use Rattle.weighted_tree.specs.Path.{change_all, Each, CanChange}
use Rattle.weighted_tree.proofs.Climb.{climb, each_set}
use Rattle.weighted_tree.proofs.path.change_path.Goals as goal

pub overflow_add-store : goal.overflow_add-store
unfolding Each
overflow_add-store c = record { fits = c.requires.1.0.0 }

pub overflow_sub-store : goal.overflow_sub-store
unfolding Each
overflow_sub-store c = c.requires.1.0.1

pub change_parents-requires : goal.change_parents-requires
unfolding Each
change_parents-requires c =
    (simp length-set (omega arith), each_set (CanChange c.args.rise c.args.fall) _ _ _ (climb _) (omega arith) c.requires.1.1)

pub returns : goal.returns
unfolding change_all
returns c = c.change_parents.ensures
