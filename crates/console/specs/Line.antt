-- The line that a request prints.
use Rattle.std.specs.Prelude.{ℕ, ◌+◌, ◌*◌, List, [], ◌∷◌, ◌++◌}
use Rattle.planner.specs.Plan.{longest_plan}
use Rattle.console.specs.Text.{newline, decimal, hexes}

-- the most bytes of a line: the digit 0, a blank and two digits for each byte of a plan, the newline
abbrev pub longest_line : ℕ
longest_line = 3 * longest_plan + 2

-- gives the line: the refusal number, then the plan, which only the number 0 has
unfoldable pub line : ℕ → List ℕ → List ℕ
line number plan = decimal number ++ hexes plan ++ (newline ∷ [])
