-- How long a line is.
use mathlib.Core.Path.{◌≡◌, ap, ◌∙◌}
use mathlib.Core.List.{List, [], ◌∷◌, ◌++◌}
use Prim.Native.Nat.{ℕ, ◌+◌, ◌*◌, ◌≤◌}
use native.Mathlib.Omega.{arith}
use lib.Dec.{ltb}
use lib.ListN.{length, length-append}
use Rattle.cases.proofs.Cases.{split}
use Rattle.console.specs.Text.{newline, decimal, hexes}
use Rattle.console.specs.Line.{line}
use Rattle.console.proofs.Texts.{length_hexes}

pub length_line : (n : ℕ) (plan : List ℕ) → length (line n plan) ≡ length (decimal n) + length (hexes plan) + 1
unfolding line
length_line n plan = length-append (decimal n ++ hexes plan) (newline ∷ []) ∙ ap (λ (k : ℕ). k + 1) (length-append (decimal n) (hexes plan))

length_decimal : (n : ℕ) → length (decimal n) ≤ 2
unfolding decimal
length_decimal n = split (ltb n 10) (λ a. rw a (omega arith)) (λ a. rw a (omega arith))

pub short_line : (n : ℕ) → length (line n []) ≤ 3
unfolding hexes
short_line n = omega (arith, length_line n [], length_decimal n)

pub plan_line : (plan : List ℕ) → length (line 0 plan) ≡ 3 * length plan + 2
unfolding decimal
plan_line plan = omega (arith, length_line 0 plan, length_hexes plan)
