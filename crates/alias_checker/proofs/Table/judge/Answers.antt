-- The cells hold the pairs that draw each index, or the table is not fair.
use Rattle.std.proofs.Common.{◌∙◌, sym, arith, rules}
use Rattle.alias_checker.proofs.Judging.{capped_none, judged_yes, judged_no, judged_apart}
use Rattle.alias_checker.proofs.Table.judge.Goals as goal
use Rattle.alias_checker.proofs.Table.judge.Goals.{else-is_some-via-then-is_some+else-agrees, else-is_some-via-else-is_some}

pub returns-then-agrees : goal.returns-then-agrees
returns-then-agrees c =
    judged_yes _ _ _ c.requires.odds_long _ c.requires.sum c.requires.scales _ c.cap.ensures.capped _ _ c.lend.ensures (sym c.is_some.ensures ∙ c.if-is_some.true) (sym c.if-agrees.true ∙ c.agrees.ensures) (omega arith)

pub returns : goal.returns
returns c =
    let q = c.requires in
    elim c.else-is_some.branch [
      | else-is_some-via-then-is_some+else-agrees w ↦ judged_apart _ _ _ q.odds_long _ q.sum q.scales _ c.cap.ensures.capped _ _ c.lend.ensures (sym c.is_some.ensures ∙ w.if-is_some.true) (sym w.if-agrees.false ∙ w.agrees.ensures) _ (search (rules, capped_none))
      | else-is_some-via-else-is_some w ↦ judged_no _ _ _ q.odds_long _ q.sum q.scales _ c.cap.ensures.capped _ _ c.lend.ensures (sym c.is_some.ensures ∙ w.if-is_some.false) _ (search (rules, capped_none))
    ]
