-- The cases of docs/RULES.md agree, by computation. Assumes nothing.
use mathlib.Core.Path.{refl}
use lib.Ieee.{sub, mul, div, lt, le, eq, of_int, is_nan}
use Rattle.counting.specs.Sum.{sum_of}
use Rattle.counting.specs.Below.{all_below}
use Rattle.words.specs.First.{first_from}
use Rattle.words.specs.Below.{accepts}
use Rattle.weighted_tree.specs.Store.{cell_at, children_at, sound_at, weight_at}
use Rattle.weighted_tree.specs.Path.{parents_in, parents, sound_all, change_all}
use Rattle.weighted_tree.specs.Tests.{bad_count, damaged}
use Rattle.weighted_tree.specs.New as new
use Rattle.weighted_tree.specs.Pop as pop
use Rattle.weighted_tree.specs.Push as push
use Rattle.weighted_tree.specs.Update as update
use Rattle.weighted_tree.specs.Walk as walk
use Rattle.weighted_alias.specs.Tests.{too_heavy}
use Rattle.weighted_alias.specs.New as alias
use Rattle.words.specs.Floats.{over}
use Rattle.binomial.specs.Setup.{power_from, binv_of}
use Rattle.binomial.specs.Attempt.{attempt_from}
use Rattle.binomial.specs.New as setup
use Rattle.binomial.specs.Draw as binv
use Rattle.promises.specs.Stars.{stars, AllAgree}

pub stars_agree : AllAgree stars
unfolding sum_of all_below accepts cell_at children_at sound_at weight_at parents_in parents sound_all change_all bad_count damaged new.gathered new.changed pop.rule pop.changed push.changed update.changed walk.visited walk.rule too_heavy alias.split alias.pair_up alias.settle alias.scaled alias.paired alias.odds_of alias.links_of alias.rule over sub mul div lt le eq of_int is_nan power_from binv_of attempt_from setup.rule setup.later_rule first_from binv.rule
stars_agree = (refl, (refl, (refl, (refl, (refl, (refl, (refl, (refl, (refl, (refl, (refl, (refl, (refl, (refl, (refl, (refl, tt))))))))))))))))
