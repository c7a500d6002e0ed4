-- Worked figures: bytes, and what is read from them and written as them.
use Rattle.std.specs.Prelude.{cond, List, [], ◌∷◌, ◌++◌, ℕ, drop}
use Rattle.cases.specs.Figures.{Hold}
use Rattle.refusal.specs.First.{accepted}
use Rattle.refusal.specs.Numbers.{truncated, malformed}
use Rattle.leb128.specs.Answers.{Number}
use Rattle.leb128.specs.Numbers.{groups, found, refused}
use Rattle.leb128.specs.Encoding.{encoded}
use Rattle.leb128.specs.Decoding.{decoded}

-- a figure: bytes, and the answer they are read as
pub record Row : Type 0 where
  pub bytes : List ℕ
  pub number : Number

-- gives the figure of bytes and their answer
abbrev row : List ℕ → Number → Row
row bytes number = record { bytes = bytes; number = number }

-- gives the table: numbers at the ends of each length, then each kind of fault
abbrev pub figures : List Row
figures =
    row (0x00 ∷ []) (found 0 1)
    ∷ row (0x7F ∷ []) (found 127 1)
    ∷ row (0x80 ∷ 0x01 ∷ []) (found 128 2)
    ∷ row (0xAC ∷ 0x02 ∷ []) (found 300 2)
    ∷ row (0xFF ∷ 0x7F ∷ []) (found 16383 2)
    ∷ row (0x05 ∷ 0x83 ∷ 0x00 ∷ []) (found 5 1)
    ∷ row [] (refused truncated)
    ∷ row (0x83 ∷ []) (refused truncated)
    ∷ row (0x83 ∷ 0x00 ∷ []) (refused malformed)
    ∷ row (0x83 ∷ 0x80 ∷ []) (refused malformed)
    ∷ row (0x80 ∷ 0x80 ∷ 0x01 ∷ []) (refused malformed)
    ∷ []

-- gives the bytes that an answer's number is written as, none for a refusal
abbrev bytes_of : Number → List ℕ
bytes_of number = cond (accepted number.refusal) (encoded groups number.value) []

-- gives a figure worked out anew: the answer from the bytes, and from the answer the bytes that it took, with the others after them
abbrev pub worked_out : Row → Row
worked_out r = row (bytes_of r.number ++ drop r.number.used r.bytes) (decoded groups r.bytes)

-- Every figure of the table is what the definitions give.
abbrev pub FiguresHold : Type 0
FiguresHold = Hold worked_out figures
