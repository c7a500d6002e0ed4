-- The figures hold, by computation.
use mathlib.Core.Path.{refl}
use Rattle.ads1299_fields.specs.Table.{table, row_of}
use Rattle.ads1299_fields.specs.Names.{named, sum_below, name_count}
use Rattle.ads1299_fields.specs.Places.{place}
use Rattle.ads1299_fields.specs.Values.{fits, legal}
use Rattle.ads1299_fields.specs.Figures.{FiguresHold}

pub figures_hold : FiguresHold
unfolding table row_of named sum_below name_count place fits legal
figures_hold = refl
