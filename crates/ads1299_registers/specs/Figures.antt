-- Channels at the ends of their range, in one table.
use Rattle.std.specs.Prelude.{ℕ, Bool, true, false, List, [], ◌∷◌}
use Rattle.cases.specs.Figures.{Hold}
use Rattle.ads1299_registers.specs.Channels.{is_channel}

-- a number, and whether the converter has that channel
pub data Figure : Type 0 where
  channel : ℕ → Bool → Figure

-- gives a figure worked out anew
abbrev pub worked_out : Figure → Figure
worked_out (channel number answer) = channel number (is_channel number)

-- gives the table
abbrev pub figures : List Figure
figures = channel 0 false ∷ channel 1 true ∷ channel 8 true ∷ channel 9 false ∷ channel 257 false ∷ []

-- Every figure of the table is what the definitions give.
abbrev pub FiguresHold : Type 0
FiguresHold = Hold worked_out figures
