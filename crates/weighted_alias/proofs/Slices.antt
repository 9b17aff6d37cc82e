-- The table in the making keeps the slices and the sum that it was handed, from method to method. Assumes nothing.
use mathlib.Core.Path.{refl, ◌∙◌}
use Rattle.weighted_alias.specs.declared.aliases.Aliases.{Aliases}
use Rattle.weighted_alias.specs.Lists.{Kept}

pub kept_begins : (a : Aliases) → Kept a a
kept_begins a = record { odds = refl; links = refl; sum = refl }

pub kept_on : (a b c : Aliases) → Kept a b → Kept b c → Kept a c
kept_on a b c k l = record { odds = l.odds ∙ k.odds; links = l.links ∙ k.links; sum = l.sum ∙ k.sum }
