-- Parties and owners at the ends of their ranges, in one table.
use Rattle.std.specs.Prelude.{ℕ, Bool, true, false, List, [], ◌∷◌}
use Rattle.cases.specs.Figures.{Hold}
use Rattle.parties.specs.Parties.{known_party, is_admin}
use Rattle.parties.specs.Owners.{known_owners, owns}

-- A test, by what it is given, and its answer.
pub data Figure : Type 0 where
  known : ℕ → Bool → Figure
  administrator : ℕ → Bool → Figure
  entries : List ℕ → Bool → Figure
  owner : ℕ → ℕ → Bool → Figure

-- gives eight owners: party 8 has channel 1, party 1 channel 8, the administrator the others
abbrev pub owners : List ℕ
owners = 8 ∷ 0 ∷ 0 ∷ 0 ∷ 0 ∷ 0 ∷ 0 ∷ 1 ∷ []

-- gives a figure worked out anew
abbrev pub worked_out : Figure → Figure
worked_out (known party answer) = known party (known_party party)
worked_out (administrator party answer) = administrator party (is_admin party)
worked_out (entries list answer) = entries list (known_owners list)
worked_out (owner party number answer) = owner party number (owns owners party number)

-- gives the table
abbrev pub figures : List Figure
figures =
    known 0 true ∷ known 8 true ∷ known 9 false ∷ known 256 false
    ∷ administrator 0 true ∷ administrator 1 false
    ∷ entries owners true ∷ entries (0 ∷ 0 ∷ 0 ∷ 0 ∷ 0 ∷ 0 ∷ 0 ∷ 9 ∷ []) false ∷ entries (9 ∷ 0 ∷ 0 ∷ 0 ∷ 0 ∷ 0 ∷ 0 ∷ 0 ∷ []) false
    ∷ owner 8 1 true ∷ owner 0 1 false ∷ owner 1 8 true ∷ owner 8 8 false ∷ owner 0 7 true
    ∷ []

-- Every figure of the table is what the definitions give.
abbrev pub FiguresHold : Type 0
FiguresHold = Hold worked_out figures
