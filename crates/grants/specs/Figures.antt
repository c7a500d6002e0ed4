-- Worked cases of grants, in one table.
use Rattle.std.specs.Prelude.{ℕ, List, [], ◌∷◌}
use Rattle.cases.specs.Figures.{Hold}
use Rattle.ads1299.specs.declared.Converter.{Converter}
use Rattle.ads1299.specs.Figures.{shared, invalid}
use Rattle.grants.specs.Grant.{granted}

-- state, caller, receiver and channel of a grant with its refusal and the owners after it
pub data Figure : Type 0 where
  grant : Converter → ℕ → ℕ → ℕ → ℕ → List ℕ → Figure

-- gives a figure worked out anew
abbrev pub worked_out : Figure → Figure
worked_out (grant s caller receiver channel refusal owners) =
    grant s caller receiver channel (granted s caller receiver channel).refusal (granted s caller receiver channel).next.owners

-- gives the table
abbrev pub figures : List Figure
figures =
    grant shared 0 8 1 0 (8 ∷ 2 ∷ 2 ∷ 0 ∷ 0 ∷ 0 ∷ 0 ∷ 8 ∷ [])
    ∷ grant shared 0 0 8 0 (0 ∷ 2 ∷ 2 ∷ 0 ∷ 0 ∷ 0 ∷ 0 ∷ 0 ∷ [])
    ∷ grant shared 9 1 0 3 shared.owners
    ∷ grant shared 0 9 0 3 shared.owners
    ∷ grant shared 2 1 0 5 shared.owners
    ∷ grant shared 2 1 9 5 shared.owners
    ∷ grant shared 2 1 3 6 shared.owners
    ∷ grant invalid 9 9 0 13 invalid.owners
    ∷ []

-- Every figure of the table is what the definitions give.
abbrev pub FiguresHold : Type 0
FiguresHold = Hold worked_out figures
