-- The figures hold, by computation.
use mathlib.Core.Path.{refl}
use Rattle.bits.specs.Fields.{field, inserted}
use Rattle.ads1299_fields.specs.Table.{table, row_of}
use Rattle.ads1299_fields.specs.Names.{named}
use Rattle.ads1299_fields.specs.Places.{place}
use Rattle.ads1299_fields.specs.Values.{fits, settable}
use Rattle.ads1299_settings.specs.Registers.{read_at, field_of, field_byte}
use Rattle.ads1299_settings.specs.Figures.{FiguresHold}

pub figures_hold : FiguresHold
unfolding field inserted table row_of named place fits settable read_at field_of field_byte
figures_hold = refl
