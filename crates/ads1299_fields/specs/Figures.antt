-- Worked figures of places and values, document 01's among them, in one table.
use Rattle.std.specs.Prelude.{Bool, true, false, List, [], ◌∷◌, ◌++◌, ℕ}
use Rattle.cases.specs.Figures.{Hold}
use Rattle.ads1299_fields.specs.Names.{name_count}
use Rattle.ads1299_fields.specs.Places.{place}
use Rattle.ads1299_fields.specs.Values.{legal}

-- A figure by its kind.
pub data Figure : Type 0 where
  -- field, channel; register, lowest bit, width
  located : ℕ → ℕ → ℕ → ℕ → ℕ → Figure
  -- field, value; whether it is legal
  judged : ℕ → ℕ → Bool → Figure
  -- how many names there are
  counted : ℕ → Figure

-- gives a figure worked out anew
abbrev pub worked_out : Figure → Figure
worked_out (located f n register bit width) = located f n (place f n).register (place f n).bit (place f n).width
worked_out (judged f v answer) = judged f v (legal f v)
worked_out (counted count) = counted name_count

-- gives where fields lie; the last four name nothing
abbrev pub place_figures : List Figure
place_figures =
    located 1 1 0x05 7 1
    ∷ located 2 3 0x07 4 3
    ∷ located 3 8 0x0C 3 1
    ∷ located 4 8 0x0C 0 3
    ∷ located 5 3 0x0D 2 1
    ∷ located 6 1 0x0E 0 1
    ∷ located 9 8 0x11 7 1
    ∷ located 10 0 0x01 6 1
    ∷ located 12 0 0x01 0 3
    ∷ located 14 0 0x02 2 1
    ∷ located 15 0 0x02 0 2
    ∷ located 16 0 0x03 7 1
    ∷ located 20 0 0x03 1 1
    ∷ located 21 0 0x04 5 3
    ∷ located 24 0 0x15 5 1
    ∷ located 26 0 0x17 1 1
    ∷ located 5 0 0 0 0
    ∷ located 5 9 0 0 0
    ∷ located 10 1 0 0 0
    ∷ located 27 0 0 0 0
    ∷ []

-- gives the values at the edges: refused ones and their neighbours, the widths' ends, a value that is 0 in its low byte, no field
abbrev pub value_figures : List Figure
value_figures =
    judged 2 6 true
    ∷ judged 2 7 false
    ∷ judged 12 6 true
    ∷ judged 12 7 false
    ∷ judged 15 2 false
    ∷ judged 15 3 true
    ∷ judged 15 4 false
    ∷ judged 4 7 true
    ∷ judged 4 8 false
    ∷ judged 21 7 true
    ∷ judged 1 1 true
    ∷ judged 1 2 false
    ∷ judged 1 256 false
    ∷ judged 0 0 false
    ∷ judged 27 0 false
    ∷ []

-- gives the table
abbrev pub figures : List Figure
figures = place_figures ++ value_figures ++ (counted 89 ∷ [])

-- Every figure of the table is what the definitions give.
abbrev pub FiguresHold : Type 0
FiguresHold = Hold worked_out figures
