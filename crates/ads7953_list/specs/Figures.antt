-- Lists planned, in one table: plans and where they lie, and two faults each, of which the one that is tried first is the answer.
use Rattle.std.specs.Prelude.{ℕ, true, List, [], ◌∷◌}
use Rattle.cases.specs.Figures.{Hold}
use Rattle.splice.specs.Splice.{room_at}
use Rattle.ads7953.specs.declared.Ads7953.{Ads7953}
use Rattle.ads7953.specs.State.{with_last, with_programming}
use Rattle.ads7953.specs.Frame.{powered_up}
use Rattle.ads7953_list.specs.Planned.{list_planned, list_tx_after}

-- gives a buffer of six bytes
abbrev pub buffer : List ℕ
buffer = 1 ∷ 2 ∷ 3 ∷ 4 ∷ 5 ∷ 6 ∷ []

-- a state, a party, a list and a place in that buffer; the refusal, the length and the buffer after
pub data Figure : Type 0 where
  planning : Ads7953 → ℕ → ℕ → ℕ → ℕ → ℕ → List ℕ → Figure

-- gives a figure worked out anew
abbrev pub worked_out : Figure → Figure
worked_out (planning s party list at refusal length after) =
    planning s party list at (list_planned s party list (room_at buffer at)).refusal (list_planned s party list (room_at buffer at)).length
    (list_tx_after s party list buffer at)

-- gives the state at power-up, half through programming
abbrev pub half : Ads7953
half = with_programming powered_up true

-- gives the table
abbrev pub figures : List Figure
figures =
    planning powered_up 0 0x0208 1 0 4 (1 ∷ 0x80 ∷ 0x00 ∷ 0x02 ∷ 0x08 ∷ 6 ∷ [])
    ∷ planning powered_up 0 0x8000 2 0 4 (1 ∷ 2 ∷ 0x80 ∷ 0x00 ∷ 0x80 ∷ 0x00 ∷ [])
    ∷ planning powered_up 0 0x0001 3 9 0 buffer
    ∷ planning powered_up 0 0x0001 7 9 0 buffer
    ∷ planning (with_last powered_up 16) 9 0x0001 0 13 0 buffer
    ∷ planning powered_up 9 0x0001 0 3 0 buffer
    ∷ planning powered_up 8 0x0000 0 6 0 buffer
    ∷ planning half 0 0x0000 0 16 0 buffer
    ∷ planning half 0 0x0001 3 8 0 buffer
    ∷ []

-- Every figure of the table is what the definitions give.
abbrev pub FiguresHold : Type 0
FiguresHold = Hold worked_out figures
