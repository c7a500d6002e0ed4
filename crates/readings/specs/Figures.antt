-- Worked cases of readings, in one table.
use Rattle.std.specs.Prelude.{ℕ, ◌+◌, true, false, List, [], ◌∷◌, ◌++◌, ℤ, pos, neg_ℤ, replicate, set}
use Rattle.cases.specs.Figures.{Hold}
use Rattle.ads1299_codes.specs.declared.Rail.TheVariants.{Neither, Lowest, Highest}
use Rattle.ads1299_registers.specs.Addresses.{CH1SET}
use Rattle.ads1299.specs.declared.Converter.{Converter}
use Rattle.ads1299.specs.State.{with_registers, with_converting}
use Rattle.ads1299.specs.Sample.{sampled}
use Rattle.ads1299.specs.Figures.{shared, invalid}
use Rattle.readings.specs.Answers.{Reading}
use Rattle.readings.specs.Reading.{reading, channel_reading, part_bytes}

pub data Figure : Type 0 where
  -- state, party, channel and frame of a reading with its answer and its part
  read : Converter → ℕ → ℕ → List ℕ → Reading → List ℕ → Figure
  -- a state, the codes of a sample that it takes, party and channel with the party's reading of the sample's frame
  read_sample : Converter → List ℤ → ℕ → ℕ → Reading → Figure

-- gives a frame with P 82h, N 04h, and FFh in every channel's bytes but those of channel 8
abbrev pub full : List ℕ
full = (0xC8 ∷ 0x20 ∷ 0x40 ∷ replicate 21 0xFF) ++ (0x80 ∷ 0x00 ∷ 0x00 ∷ [])

-- gives a state that takes samples, with channel 2 powered down
abbrev pub sampling : Converter
sampling = with_converting (with_registers shared (set shared.registers (CH1SET + 1) 0xE1)) true

-- gives codes of which those of channels 2 and 3 are the highest, the last is the lowest, and two are beside an end
abbrev pub at_ends : List ℤ
at_ends = pos 8388606 ∷ pos 8388607 ∷ pos 8388607 ∷ pos 0 ∷ pos 0 ∷ pos 0 ∷ neg_ℤ (pos 8388607) ∷ neg_ℤ (pos 8388608) ∷ []

-- gives a figure worked out anew
abbrev pub worked_out : Figure → Figure
worked_out (read s party channel frame answer part) =
    read s party channel frame (channel_reading s party channel frame) (part_bytes s party channel frame)
worked_out (read_sample s codes party channel answer) =
    read_sample s codes party channel (channel_reading s party channel (sampled s codes 0x00 0x00).next.latest)

-- gives the table: frames that are given, then a sample's own, in which channel 2 was powered down with its code at an end
abbrev pub figures : List Figure
figures =
    read shared 2 2 full (reading 0 (neg_ℤ (pos 1)) Neither true false) (0xFF ∷ 0xFF ∷ 0xFF ∷ [])
    ∷ read shared 2 3 full (reading 0 (neg_ℤ (pos 1)) Neither false true) (0xFF ∷ 0xFF ∷ 0xFF ∷ [])
    ∷ read shared 8 8 full (reading 0 (neg_ℤ (pos 8388608)) Lowest true false) (0x80 ∷ 0x00 ∷ 0x00 ∷ [])
    ∷ read shared 9 0 full (reading 3 (pos 0) Neither false false) []
    ∷ read shared 2 9 full (reading 5 (pos 0) Neither false false) []
    ∷ read shared 0 2 full (reading 6 (pos 0) Neither false false) []
    ∷ read shared 1 2 [] (reading 6 (pos 0) Neither false false) []
    ∷ read shared 0 8 full (reading 6 (pos 0) Neither false false) []
    ∷ read shared 2 2 (replicate 27 0xFF) (reading 12 (pos 0) Neither false false) []
    ∷ read shared 2 2 (full ++ 0xFF ∷ []) (reading 12 (pos 0) Neither false false) []
    ∷ read invalid 9 1 full (reading 13 (pos 0) Neither false false) []
    ∷ read_sample sampling at_ends 0 1 (reading 0 (pos 8388606) Neither false false)
    ∷ read_sample sampling at_ends 2 2 (reading 0 (pos 0) Neither false false)
    ∷ read_sample sampling at_ends 2 3 (reading 0 (pos 8388607) Highest false false)
    ∷ read_sample sampling at_ends 0 7 (reading 0 (neg_ℤ (pos 8388607)) Neither false false)
    ∷ read_sample sampling at_ends 8 8 (reading 0 (neg_ℤ (pos 8388608)) Lowest false false)
    ∷ read_sample sampling at_ends 1 3 (reading 6 (pos 0) Neither false false)
    ∷ []

-- Every figure of the table is what the definitions give.
abbrev pub FiguresHold : Type 0
FiguresHold = Hold worked_out figures
