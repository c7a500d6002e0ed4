-- Registers before and after a field is set, in one table.
use Rattle.std.specs.Prelude.{List, [], ◌∷◌, ℕ, replicate}
use Rattle.cases.specs.Figures.{Hold}
use Rattle.ads1299_registers.specs.Addresses.{register_count}
use Rattle.ads1299_settings.specs.Registers.{field_of, field_byte}

-- a field, a channel and a value; the register before and after
pub record Figure : Type 0 where
  pub field : ℕ
  pub channel : ℕ
  pub value : ℕ
  pub before : ℕ
  pub after : ℕ

-- gives a figure worked out anew: the register from the value, and the value from the register
abbrev pub worked_out : Figure → Figure
worked_out x =
    record {
      field = x.field;
      channel = x.channel;
      value = field_of (replicate register_count x.after) x.field x.channel;
      before = x.before;
      after = field_byte (replicate register_count x.before) x.field x.channel x.value;
    }

abbrev figure : ℕ → ℕ → ℕ → ℕ → ℕ → Figure
figure f n v before after = record { field = f; channel = n; value = v; before = before; after = after }

-- gives the table: a gain, a lead-off bit and its neighbours, a field at either end of a byte, reserved bits that stay
abbrev pub figures : List Figure
figures =
    figure 2 8 1 0xEF 0x9F
    ∷ figure 6 8 1 0x12 0x92
    ∷ figure 1 8 1 0x7F 0xFF
    ∷ figure 12 0 6 0x95 0x96
    ∷ figure 15 0 3 0xC0 0xC3
    ∷ []

-- Every figure of the table is what the definitions give.
abbrev pub FiguresHold : Type 0
FiguresHold = Hold worked_out figures
