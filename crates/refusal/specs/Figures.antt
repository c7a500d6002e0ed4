-- Lists of tests with their answers, in one table.
use Rattle.std.specs.Prelude.{ℕ, Bool, true, false, List, [], ◌∷◌}
use Rattle.cases.specs.Figures.{Hold}
use Rattle.refusal.specs.First.{first_of}

-- tests with their numbers; the answer
pub data Figure : Type 0 where
  tried : List (Bool × ℕ) → ℕ → Figure

-- gives a figure worked out anew
abbrev pub worked_out : Figure → Figure
worked_out (tried tests answer) = tried tests (first_of tests)

-- gives the table: no test, none that applies, one, and two of which the first is the answer
abbrev pub figures : List Figure
figures =
    tried [] 0
    ∷ tried ((false, 13) ∷ (false, 3) ∷ []) 0
    ∷ tried ((false, 13) ∷ (true, 3) ∷ []) 3
    ∷ tried ((false, 13) ∷ (true, 6) ∷ (true, 7) ∷ []) 6
    ∷ []

-- Every figure of the table is what the definitions give.
abbrev pub FiguresHold : Type 0
FiguresHold = Hold worked_out figures
