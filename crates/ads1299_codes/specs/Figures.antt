-- Worked figures about codes and rails, in one table: around zero, and at and beside the ends of the range.
use Rattle.std.specs.Prelude.{ℕ, List, [], ◌∷◌, ℤ, pos, neg_ℤ}
use Rattle.cases.specs.Figures.{Hold}
use Rattle.ads1299_codes.specs.Codes.{word_of, code_of}
use Rattle.ads1299_codes.specs.Words.{word_bytes, word_at}
use Rattle.ads1299_codes.specs.Rails.{rail_of}
use Rattle.ads1299_codes.specs.declared.Rail.{Rail}
use Rattle.ads1299_codes.specs.declared.Rail.TheVariants.{Neither, Lowest, Highest}

pub data Figure : Type 0 where
  -- three bytes with their code
  code : List ℕ → ℤ → Figure
  -- three bytes with the rail of their code
  rail : List ℕ → Rail → Figure

-- gives a figure worked out anew: the bytes from the code, and the code from the bytes; the rail from the bytes
abbrev pub worked_out : Figure → Figure
worked_out (code bytes z) = code (word_bytes (word_of z)) (code_of (word_at bytes 0))
worked_out (rail bytes end) = rail bytes (rail_of (code_of (word_at bytes 0)))

-- gives the table
abbrev pub figures : List Figure
figures =
    code (0x00 ∷ 0x00 ∷ 0x00 ∷ []) (pos 0)
    ∷ code (0x00 ∷ 0x00 ∷ 0x01 ∷ []) (pos 1)
    ∷ code (0xFF ∷ 0xFF ∷ 0xFE ∷ []) (neg_ℤ (pos 2))
    ∷ code (0x7F ∷ 0xFF ∷ 0xFE ∷ []) (pos 8388606)
    ∷ code (0x80 ∷ 0x00 ∷ 0x01 ∷ []) (neg_ℤ (pos 8388607))
    ∷ rail (0x7F ∷ 0xFF ∷ 0xFF ∷ []) Highest
    ∷ rail (0x80 ∷ 0x00 ∷ 0x00 ∷ []) Lowest
    ∷ rail (0x7F ∷ 0xFF ∷ 0xFE ∷ []) Neither
    ∷ rail (0x80 ∷ 0x00 ∷ 0x01 ∷ []) Neither
    ∷ rail (0xFF ∷ 0xFF ∷ 0xFF ∷ []) Neither
    ∷ rail (0x00 ∷ 0x00 ∷ 0x00 ∷ []) Neither
    ∷ []

-- Every figure of the table is what the definitions give.
abbrev pub FiguresHold : Type 0
FiguresHold = Hold worked_out figures
