-- Runs of bytes worked by hand from document 01, in one table.
use Rattle.std.specs.Prelude.{ℕ, true, false, List, [], ◌∷◌, ◌++◌, replicate, set}
use Rattle.cases.specs.Figures.{Hold}
use Rattle.ads1299_registers.specs.Addresses.{CONFIG1}
use Rattle.ads1299.specs.declared.Converter.{Converter}
use Rattle.ads1299.specs.State.{with_registers, with_owners, with_latest, with_continuous, with_standby}
use Rattle.ads1299.specs.PowerUp.{powered_up}
use Rattle.ads1299.specs.Run.{outs}

-- the state, the bytes that go in and the bytes that come out
pub data Figure : Type 0 where
  run : Converter → List ℕ → List ℕ → Figure

-- gives a figure worked out anew
abbrev pub worked_out : Figure → Figure
worked_out (run s bytes out) = run s bytes (outs s bytes)

-- gives a frame that tells its places
abbrev counting : List ℕ
counting = 1 ∷ 2 ∷ 3 ∷ 4 ∷ 5 ∷ 6 ∷ 7 ∷ 8 ∷ 9 ∷ 10 ∷ 11 ∷ 12 ∷ 13 ∷ 14 ∷ 15 ∷ 16 ∷ 17 ∷ 18 ∷ 19 ∷ 20 ∷ 21 ∷ 22 ∷ 23 ∷ 24 ∷ 25 ∷ 26 ∷ 27 ∷ []

-- gives a fresh converter in command mode, with that latest frame
abbrev ready : Converter
ready = with_latest (with_continuous (powered_up 0x3E).converter false) counting

-- gives the same with read-back on
abbrev again : Converter
again = with_registers ready (set ready.registers CONFIG1 0xD6)

-- gives the bytes of a read of CONFIG1
abbrev read_config1 : List ℕ
read_config1 = 0x21 ∷ 0x00 ∷ 0x00 ∷ []

-- gives the table: what power-up leaves; no wrap above 17h; a write through the mask; bytes of a read not decoded; a dropped command
-- consumed; a frame, then nothing, or the frame again; an acting command, and an ignored one, in the middle of a frame; standby
abbrev pub figures : List Figure
figures =
    run ready (0x20 ∷ 0x17 ∷ replicate 24 0)
    (0 ∷ 0 ∷ 0x3E ∷ 0x96 ∷ 0xC0 ∷ 0x60 ∷ 0x00 ∷ replicate 8 0x61 ++ replicate 7 0x00 ++ (0x0F ∷ 0x00 ∷ 0x00 ∷ 0x00 ∷ []))
    ∷ run ready (0x57 ∷ 0x02 ∷ 0xFF ∷ 0xFF ∷ 0xFF ∷ 0x37 ∷ 0x01 ∷ 0x00 ∷ 0x00 ∷ 0x20 ∷ 0x00 ∷ 0x00 ∷ []) (replicate 7 0 ++ (0x0A ∷ 0 ∷ 0 ∷ 0 ∷ 0x3E ∷ []))
    ∷ run again (0x41 ∷ 0x00 ∷ 0x00 ∷ read_config1) (0 ∷ 0 ∷ 0 ∷ 0 ∷ 0 ∷ 0x90 ∷ [])
    ∷ run ready (0x20 ∷ 0x03 ∷ 0x06 ∷ 0x06 ∷ 0x06 ∷ 0x06 ∷ []) (0 ∷ 0 ∷ 0x3E ∷ 0x96 ∷ 0xC0 ∷ 0x60 ∷ [])
    ∷ run ready (0x41 ∷ 0x20 ∷ read_config1) (0 ∷ 0 ∷ 0 ∷ 0 ∷ 0x96 ∷ [])
    ∷ run ready (0x12 ∷ replicate 28 0) (0 ∷ counting ++ (0 ∷ []))
    ∷ run again (0x12 ∷ replicate 28 0) (0 ∷ counting ++ (1 ∷ []))
    ∷ run ready (0x12 ∷ 0x00 ∷ 0x08 ∷ 0x00 ∷ []) (0 ∷ 1 ∷ 2 ∷ 0 ∷ [])
    ∷ run ready (0x12 ∷ 0x00 ∷ 0x0A ∷ 0x00 ∷ []) (0 ∷ 1 ∷ 2 ∷ 3 ∷ [])
    ∷ run (with_standby ready true) (0x06 ∷ 0x12 ∷ 0x02 ∷ 0x12 ∷ 0x00 ∷ []) (0 ∷ 0 ∷ 0 ∷ 0 ∷ 1 ∷ [])
    ∷ []

-- Every figure of the table is what the definitions give.
abbrev pub FiguresHold : Type 0
FiguresHold = Hold worked_out figures

-- gives, for the figures of grants and readings, a fresh state in which channels 2 and 3 are party 2's, channel 8 is party 8's, and the others the administrator's
abbrev pub shared : Converter
shared = with_owners (powered_up 0x3E).converter (0 ∷ 2 ∷ 2 ∷ 0 ∷ 0 ∷ 0 ∷ 0 ∷ 8 ∷ [])

-- gives a state with an owner that is no party
abbrev pub invalid : Converter
invalid = with_owners shared (9 ∷ 2 ∷ 2 ∷ 0 ∷ 0 ∷ 0 ∷ 0 ∷ 8 ∷ [])
