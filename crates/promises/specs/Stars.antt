-- The sixteen cases of docs/RULES.md, in one table: what the definitions give, and what they are to give.
use Rattle.std.specs.Prelude.{ℕ, cond, ◌≡◌, List, [], ◌∷◌, map}
use Rattle.refusal.specs.Outcome.{Outcome, gave, refused}
use Rattle.words.specs.Below.{accepts}
use Rattle.weighted_tree.specs.Store.{Store}
use Rattle.weighted_tree.specs.New as new
use Rattle.weighted_tree.specs.Pop as pop
use Rattle.weighted_tree.specs.Push as push
use Rattle.weighted_tree.specs.Update as update
use Rattle.weighted_tree.specs.Walk as walk
use Rattle.weighted_alias.specs.New as alias
use Rattle.binomial.specs.declared.Method.{Method}
use Rattle.binomial.specs.Setup.{half}
use Rattle.binomial.specs.New as setup
use Rattle.binomial.specs.Draw as binv

-- a refusal's number, or 0 and what was given
abbrev numbers : {A : Type 0} → (A → List ℕ) → Outcome A → List ℕ
numbers values (gave v) = 0 ∷ values v
numbers values (refused k) = k ∷ []

abbrev one : ℕ → List ℕ
one n = n ∷ []

-- weights 1, 2, 3, 4 in a tree, and the slots that targets draw from it
abbrev four : Store
four = new.changed (7 ∷ 7 ∷ 7 ∷ 7 ∷ []) (1 ∷ 2 ∷ 3 ∷ 4 ∷ [])

abbrev drawn : List ℕ → List (List ℕ)
drawn targets = map (λ t. numbers one (walk.rule four 4 t)) targets

-- weights 2, 0; push 1; update slot 1 to 1
abbrev three : Store
three = update.changed (push.changed (new.changed (7 ∷ 7 ∷ 7 ∷ []) (2 ∷ 0 ∷ [])) 2 1) 3 1 1

-- a table: whether it is taken, its odds and its links
abbrev table : List ℕ → List (List ℕ)
table ws = alias.odds_of ws ∷ alias.links_of ws ∷ []

-- what the builder answers of three weights, lent tables of their length
abbrev answered : ℕ → ℕ → ℕ → List ℕ
answered a b c = numbers one (alias.rule (a ∷ b ∷ c ∷ []) 3 3)

-- whether words are accepted for T: 1 or 0
abbrev accepted : ℕ → List ℕ → List ℕ
accepted T ws = map (λ w. cond (accepts T w) 1 0) ws

-- the last five words, the last first
abbrev last_five : List ℕ
last_five = 18446744073709551615 ∷ 18446744073709551614 ∷ 18446744073709551613 ∷ 18446744073709551612 ∷ 18446744073709551611 ∷ []

-- what a setup draws from a pool of one word
abbrev drawn_with : Outcome Method → ℕ → List ℕ
drawn_with (gave m) w = numbers one (binv.rule m (w ∷ []))
drawn_with (refused k) w = k ∷ []

-- a case: what the definitions give, and what they are to give
abbrev pub Case : Type 0
Case = List (List ℕ) × List (List ℕ)

abbrev pub stars : List Case
stars =
    -- weights 1, 2, 3, 4 give subtotals 10, 6, 3, 4; targets 0 to 3 draw 3, 4 and 5 draw 1, 6 to 8 draw 2, 9 draws 0
    (four ∷ drawn (0 ∷ 1 ∷ 2 ∷ 3 ∷ []), (10 ∷ 6 ∷ 3 ∷ 4 ∷ []) ∷ (0 ∷ 3 ∷ []) ∷ (0 ∷ 3 ∷ []) ∷ (0 ∷ 3 ∷ []) ∷ (0 ∷ 3 ∷ []) ∷ [])
    ∷ (drawn (4 ∷ 5 ∷ []), (0 ∷ 1 ∷ []) ∷ (0 ∷ 1 ∷ []) ∷ [])
    ∷ (drawn (6 ∷ 7 ∷ 8 ∷ []), (0 ∷ 2 ∷ []) ∷ (0 ∷ 2 ∷ []) ∷ (0 ∷ 2 ∷ []) ∷ [])
    ∷ (drawn (9 ∷ []), (0 ∷ 0 ∷ []) ∷ [])
    -- weights 2, 0, then 1 pushed and slot 1 updated to 1: subtotals 4, 1, 1. Pop returns 1 and leaves 3, 1, 0 with count 2
    ∷ (three ∷ [], (4 ∷ 1 ∷ 1 ∷ []) ∷ [])
    ∷ (numbers (λ v. v.0 ∷ v.1 ∷ []) (pop.rule three 3) ∷ pop.changed three 3 ∷ [], (0 ∷ 1 ∷ 2 ∷ []) ∷ (3 ∷ 1 ∷ 0 ∷ []) ∷ [])
    -- alias 1, 3 and alias 1, 2, 3
    ∷ (table (1 ∷ 3 ∷ []), (2 ∷ 4 ∷ []) ∷ (1 ∷ 4294967295 ∷ []) ∷ [])
    ∷ (table (1 ∷ 2 ∷ 3 ∷ []), (3 ∷ 6 ∷ 6 ∷ []) ∷ (2 ∷ 4294967295 ∷ 1 ∷ []) ∷ [])
    -- three weights of 6148914691236517205 are taken; one more in any slot is refusal 2
    ∷ (answered 6148914691236517205 6148914691236517205 6148914691236517205 ∷ [], (0 ∷ 18446744073709551615 ∷ []) ∷ [])
    ∷ (answered 6148914691236517206 6148914691236517205 6148914691236517205 ∷ answered 6148914691236517205 6148914691236517206 6148914691236517205 ∷ answered 6148914691236517205 6148914691236517205 6148914691236517206 ∷ [], (2 ∷ []) ∷ (2 ∷ []) ∷ (2 ∷ []) ∷ [])
    -- T = 6 skips the last four words and takes the fifth-last; T = 1 skips none
    ∷ (accepted 6 last_five ∷ [], (0 ∷ 0 ∷ 0 ∷ 0 ∷ 1 ∷ []) ∷ [])
    ∷ (accepted 1 last_five ∷ [], (1 ∷ 1 ∷ 1 ∷ 1 ∷ 1 ∷ []) ∷ [])
    -- p = 0.5, n = 2: the words of the units 0.5, 0.75 and 0.875 give 1, 1 and 2; n = 20 is refusal 16
    ∷ (drawn_with (setup.rule 2 half) 9223372036854775808 ∷ [], (0 ∷ 1 ∷ []) ∷ [])
    ∷ (drawn_with (setup.rule 2 half) 13835058055282163712 ∷ [], (0 ∷ 1 ∷ []) ∷ [])
    ∷ (drawn_with (setup.rule 2 half) 16140901064495857664 ∷ [], (0 ∷ 2 ∷ []) ∷ [])
    ∷ (drawn_with (setup.rule 20 half) 0 ∷ [], (16 ∷ []) ∷ [])
    ∷ []

-- every case of a list agrees
abbrev pub AllAgree : List Case → Type 0
AllAgree [] = Unit {0}
AllAgree ((given, expected) ∷ later) = (given ≡ expected) × AllAgree later
