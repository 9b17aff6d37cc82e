-- Each slot lends to its link, or the whole fails.
use Rattle.std.proofs.Common.{◌≡◌, ℕ, ◌<◌, true, ltb, List, length, get_or, arith, sym, ltb-false, ltb-true, rules}
use Rattle.std.proofs.lemmas.List.{get_or_read, length_push}
use Rattle.std.proofs.lemmas.Slice.Zip.{zip_turn, zip_end}
use Rattle.alias_checker.proofs.Lending.{lending_begins, lending_skips, lending_adds, lending_strays, lending_exceeds, lending_ends}
use Rattle.alias_checker.proofs.Table.lend.Goals as goal
use Rattle.alias_checker.proofs.Table.lend.Goals.{In-Some}

-- a cell that was had
in_cells : (now : List ℕ) (i cell : ℕ) → true ≡ ltb i (length now) → cell ≡ get_or now i cell → (i < length now) × (cell ≡ get_or now i 0)
in_cells now i cell e q = let less = ltb-true i (length now) (sym e) in (less, get_or_read now i cell less q 0)

-- the slot whose turn it is
turn : (c : In-Some)
    → (length c.loop-own.yielded < length c.args.self.now.odds.now) × (c.in-Some.own.now ≡ get_or c.args.self.now.odds.now (length c.loop-own.yielded) 0) × (c.in-Some.link.now ≡ get_or c.args.self.now.links.now (length c.loop-own.yielded) 0)
turn c =
    let l = c.loop-own in
    let table = c.args.self.now in
    let t = zip_turn table.odds.now table.links.now l.yielded c.into_iter-own-iterator.result l.own-iterator c.next.new.self _ (search rules) (search rules) l.yielded_by (c.in-Some.own, c.in-Some.link) c.in-Some.is c.next.ensures.steps in
    (t.0, t.2 0, t.3 0)

pub loop-own-init : goal.loop-own-init
loop-own-init c = lending_begins _ _ _ _ c.requires.0 c.requires.1

pub returns-in_err-cell : goal.returns-in_err-cell
returns-in_err-cell c =
    let k = c.loop-own.invariant in
    let t = turn (goal.at.returns-in_err-cell c).In-Some in
    let away = ltb-false _ _ (sym c.in_err-cell.ensures.lookup.0) in
    rw c.from_residual.ensures (record { answer = lending_strays _ _ _ _ _ _ k t.0 (omega (arith, t.1)) (omega (arith, t.2, k.long)); cells = λ e. absurd (cc e) })

pub returns-in_err-cells : goal.returns-in_err-cells
returns-in_err-cells c =
    let k = c.loop-own.invariant in
    let t = turn (goal.at.returns-in_err-cells c).In-Some in
    let cell = rw t.2 at (in_cells _ _ _ c.in_ok-cell.ensures.lookup.0 c.in_ok-cell.ensures.lookup.1) in
    let over = c.in_err-cells.ensures in
    rw c.from_residual-in_err-cells.ensures
    (record { answer = lending_exceeds _ _ _ _ _ _ k t.0 (omega (arith, t.1)) (omega (arith, cell.0, k.long)) (omega (arith, t.1, cell.1)) (omega arith); cells = λ e. absurd (cc e) })

pub loop-own-preserved-then-own-self : goal.loop-own-preserved-then-own-self
loop-own-preserved-then-own-self c =
    let k = c.loop-own.invariant in
    let t = turn (goal.at.loop-own-preserved-then-own-self c).In-Some in
    let cell = rw t.2 at (in_cells _ _ _ c.in_ok-cell.ensures.lookup.0 c.in_ok-cell.ensures.lookup.1) in
    rw (t.2, length_push)
    (lending_adds _ _ _ _ _ _ k t.0 (omega (arith, t.1)) _ (omega (arith, t.1, cell.1, c.in_ok-cells.ensures)) (omega (arith, c.in_ok-cells.ensures)) (omega (arith, cell.0, k.long)))

pub loop-own-preserved : goal.loop-own-preserved
loop-own-preserved c =
    let t = turn (goal.at.loop-own-preserved c).In-Some in
    rw length_push (lending_skips _ _ _ _ _ _ c.loop-own.invariant t.0 (omega (arith, t.1)))

pub returns : goal.returns
returns c =
    let l = c.loop-own in
    let all = zip_end c.args.self.now.odds.now c.args.self.now.links.now l.yielded c.into_iter-own-iterator.result l.own-iterator c.next.new.self _ (search rules) (search rules) l.yielded_by c.in-None.is c.next.ensures.steps in
    lending_ends _ _ _ _ _ _ c.loop-own.invariant (omega (arith, c.args.self.now.equal))
