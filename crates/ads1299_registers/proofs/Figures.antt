-- The figures hold, by computation.
use mathlib.Core.Path.{refl}
use Rattle.ads1299_registers.specs.Figures.{FiguresHold}

pub figures_hold : FiguresHold
figures_hold = refl
