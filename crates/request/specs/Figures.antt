-- Worked figures: bytes, and what is read from them and written as them.
use Rattle.std.specs.Prelude.{cond, List, [], ◌∷◌, ◌++◌, ℕ, zero, suc, take, drop, replicate}
use Rattle.cases.specs.Figures.{Hold}
use Rattle.refusal.specs.First.{accepted}
use Rattle.refusal.specs.Numbers.{none, truncated, malformed}
use Rattle.request.specs.Answers.{Parsed}
use Rattle.request.specs.Requests.{request, request_bytes}
use Rattle.request.specs.Reading.{parsed, refused}

-- a figure: bytes, and the answer they are read as
pub record Row : Type 0 where
  pub bytes : List ℕ
  pub answer : Parsed

-- gives the figure of bytes and their answer
abbrev row : List ℕ → Parsed → Row
row bytes answer = record { bytes = bytes; answer = answer }

-- gives the answer that is a request and the count of its bytes
abbrev found : ℕ → ℕ → List ℕ → ℕ → Parsed
found field channel values used = record { refusal = none; request = request field channel values; used = used }

-- gives a whole channel's values, each of them one byte too
abbrev nine : List ℕ
nine = 1 ∷ 6 ∷ 1 ∷ 2 ∷ 0 ∷ 1 ∷ 0 ∷ 1 ∷ 3 ∷ []

-- gives the bytes of the largest number, so many times
abbrev largest_times : ℕ → List ℕ
largest_times zero = []
largest_times (suc times) = 0xFF ∷ 0x7F ∷ largest_times times

-- gives the table: requests of one value, the last for no field that there is; of a whole channel, also of none that there is; each fault
abbrev pub figures : List Row
figures =
    row (2 ∷ 3 ∷ 4 ∷ []) (found 2 3 (4 ∷ []) 3)
    ∷ row (2 ∷ 3 ∷ 4 ∷ 0x83 ∷ 0x00 ∷ []) (found 2 3 (4 ∷ []) 3)
    ∷ row (0x02 ∷ 0x03 ∷ 0xAC ∷ 0x02 ∷ []) (found 2 3 (300 ∷ []) 4)
    ∷ row (0xFF ∷ 0x7F ∷ 0xFF ∷ 0x7F ∷ 0xFF ∷ 0x7F ∷ []) (found 16383 16383 (16383 ∷ []) 6)
    ∷ row (99 ∷ 0 ∷ 0 ∷ []) (found 99 0 (0 ∷ []) 3)
    ∷ row (0x1E ∷ 3 ∷ nine) (found 30 3 nine 11)
    ∷ row (0x1E ∷ 3 ∷ nine ++ (0x83 ∷ 0x00 ∷ [])) (found 30 3 nine 11)
    ∷ row (0x1E ∷ 9 ∷ nine) (found 30 9 nine 11)
    ∷ row (0x1E ∷ largest_times 10) (found 30 16383 (replicate 9 16383) 21)
    ∷ row [] (refused truncated)
    ∷ row (1 ∷ 2 ∷ []) (refused truncated)
    ∷ row (1 ∷ 2 ∷ 0x83 ∷ []) (refused truncated)
    ∷ row (1 ∷ 0x83 ∷ 0x00 ∷ []) (refused malformed)
    ∷ row (0x83 ∷ 0x80 ∷ []) (refused malformed)
    ∷ row (0x1E ∷ 3 ∷ take 8 nine) (refused truncated)
    ∷ row (0x1E ∷ 3 ∷ take 8 nine ++ (0x83 ∷ 0x00 ∷ [])) (refused malformed)
    ∷ []

-- gives the bytes that an answer's request is written as, none for a refusal
abbrev bytes_of : Parsed → List ℕ
bytes_of answer = cond (accepted answer.refusal) (request_bytes answer.request) []

-- gives a figure worked out anew: the answer from the bytes, and from the answer the bytes that it took, with the others after them
abbrev pub worked_out : Row → Row
worked_out r = row (bytes_of r.answer ++ drop r.answer.used r.bytes) (parsed r.bytes)

-- Every figure of the table is what the definitions give.
abbrev pub FiguresHold : Type 0
FiguresHold = Hold worked_out figures
