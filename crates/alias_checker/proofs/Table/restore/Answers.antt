-- The odds with what other slots lend, divided, or zeros where the lending fails.
use Rattle.std.proofs.Common.{◌∙◌, refl, sym, arith, rules}
use Rattle.alias_checker.proofs.Judging.{capped_none, restored_yes, restored_no}
use Rattle.alias_checker.proofs.Table.restore.Goals as goal

pub returns-then-is_some : goal.returns-then-is_some
returns-then-is_some c =
    let l = rw (c.cap.ensures.uncapped refl) at c.lend.ensures in
    restored_yes _ _ _ _ _ l (sym c.is_some.ensures ∙ c.if-is_some.true) _ c.divide.ensures (omega arith)

pub returns : goal.returns
returns c =
    let l = rw (c.cap.ensures.uncapped refl) at c.lend.ensures in
    restored_no _ _ _ _ _ l (sym c.is_some.ensures ∙ c.if-is_some.false) _ (search (rules, capped_none))
