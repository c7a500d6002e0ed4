-- What the program prints for an input (document 01, "The program, and figures to check").
use Rattle.std.specs.Prelude.{ℕ, zero, suc, ◌-◌, ◌*◌, ◌/◌, cond, List, [], ◌∷◌, ◌++◌, eqb, ltb, length, drop}
use Rattle.refusal.specs.Numbers.{truncated, input_too_long}
use Rattle.request.specs.Requests.{fewest_numbers}
use Rattle.ads1299.specs.declared.Converter.{Converter}
use Rattle.console.specs.Line.{longest_line, line}
use Rattle.console.specs.Turn.{fresh, printed, next_state, consumed}

-- the most bytes of input, the party's among them
abbrev pub input_limit : ℕ
input_limit = 4096

-- the most bytes of a transcript: the requests with the fewest numbers, a byte each
abbrev pub longest_transcript : ℕ
longest_transcript = (input_limit - 1) / fewest_numbers * longest_line

-- gives the lines of at most so many requests, each meeting the state that the one before left
unfoldable pub lines : ℕ → Converter → ℕ → List ℕ → List ℕ
lines zero s party bytes = []
lines (suc most) s party bytes =
    cond (eqb (length bytes) 0) [] (printed s party bytes ++ lines most (next_state s party bytes) party (drop (consumed bytes) bytes))

-- gives the lines of all requests in the bytes, which are no more than the bytes
unfoldable pub session : Converter → ℕ → List ℕ → List ℕ
session s party bytes = lines (length bytes) s party bytes

-- gives what an input prints: its first byte is the party, as it is, and requests follow
abbrev pub run : List ℕ → List ℕ
run [] = line truncated []
run (party ∷ bytes) = session fresh party bytes

-- gives what the program prints
unfoldable pub transcript_of : List ℕ → List ℕ
transcript_of input = cond (ltb input_limit (length input)) (line input_too_long []) (run input)
