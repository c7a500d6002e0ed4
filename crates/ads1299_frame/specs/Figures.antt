-- Worked figures about a frame's first bytes, in one table.
use Rattle.std.specs.Prelude.{ℕ, List, [], ◌∷◌, take, set, replicate}
use Rattle.cases.specs.Figures.{Hold}
use Rattle.ads1299_registers.specs.Addresses.{GPIO, register_count}
use Rattle.ads1299_frame.specs.Frame.{frame_of}

-- P, N and GPIO with the first three bytes of the frame
pub data Figure : Type 0 where
  head : ℕ → ℕ → ℕ → List ℕ → Figure

-- gives a figure worked out anew: the bytes from P, N and GPIO
abbrev pub worked_out : Figure → Figure
worked_out (head p n gpio bytes) = head p n gpio (take 3 (frame_of (set (replicate register_count 0) GPIO gpio) [] p n))

-- gives the table: one in which no two digits are alike, and all bits 1
abbrev pub figures : List Figure
figures =
    head 0xA5 0x3C 0x8F (0xCA ∷ 0x53 ∷ 0xC8 ∷ [])
    ∷ head 0xFF 0xFF 0xFF (0xCF ∷ 0xFF ∷ 0xFF ∷ [])
    ∷ []

-- Every figure of the table is what the definitions give.
abbrev pub FiguresHold : Type 0
FiguresHold = Hold worked_out figures
