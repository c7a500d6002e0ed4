-- Document 02, No. 2: fresh channel registers, field by field, and worked figures of them in one table.
use Rattle.std.specs.Prelude.{ℕ, suc, ◌<◌, true, List, [], ◌∷◌, ◌++◌, ◌≡◌, get_or, replicate}
use Rattle.cases.specs.Figures.{Hold}
use Rattle.ads1299_registers.specs.Channels.{is_channel}
use Rattle.ads1299_fields.specs.Names.{channel_field_count}
use Rattle.ads1299_settings.specs.Registers.{field_of}
use Rattle.ads1299.specs.PowerUp.{restored}
use Rattle.planner.specs.Figures.{asks, command}
use Rattle.figures.specs.Figures.{Figure, planning, running, worked_out}

-- gives fields 1 to 9 of a channel as the field tables of document 000 have them after a reset: gain 24, inputs shorted, all else 0
abbrev pub reset_values : List ℕ
reset_values = 0 ∷ 6 ∷ 0 ∷ 1 ∷ 0 ∷ 0 ∷ 0 ∷ 0 ∷ 0 ∷ []

-- Power-up and RESET leave fields 1 to 9 of every channel at these values, whatever the ID and the owners.
abbrev pub FreshFields : Type 0
FreshFields =
    (id : ℕ) (owners : List ℕ) (n i : ℕ) → is_channel n ≡ true → i < channel_field_count
    → field_of (restored id owners).registers (suc i) n ≡ get_or reset_values i 0

-- gives the bytes of a read of CH1SET to CH8SET
abbrev pub read_channels : List ℕ
read_channels = 0x25 ∷ 0x07 ∷ replicate 8 0x00

-- gives what the benches in the field read back, after the two bytes of the command
abbrev pub fresh_out : List ℕ
fresh_out = 0x00 ∷ 0x00 ∷ replicate 8 0x61

-- gives the table: a read after power-up; one after all eight were written and RESET, then SDATAC, came; a plan for each field of a
-- channel's own register
abbrev pub figures : List Figure
figures =
    running command read_channels command fresh_out
    ∷ running command (0x45 ∷ 0x07 ∷ replicate 8 0x9E ++ (0x06 ∷ 0x11 ∷ read_channels)) command (replicate 12 0x00 ++ fresh_out)
    ∷ planning command (asks 0 1 3 1 3) 0 (0x47 ∷ 0x00 ∷ 0xE1 ∷ [])
    ∷ planning command (asks 0 2 8 0 3) 0 (0x4C ∷ 0x00 ∷ 0x01 ∷ [])
    ∷ planning command (asks 0 3 1 1 3) 0 (0x45 ∷ 0x00 ∷ 0x69 ∷ [])
    ∷ planning command (asks 0 4 3 0 3) 0 (0x47 ∷ 0x00 ∷ 0x60 ∷ [])
    ∷ []

-- Every figure of the table is what the definitions give.
abbrev pub FiguresHold : Type 0
FiguresHold = Hold worked_out figures
