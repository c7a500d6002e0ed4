-- The figures hold, by computation.
use mathlib.Core.Path.{refl}
use Rattle.refusal.specs.Figures.{FiguresHold}

pub figures_hold : FiguresHold
figures_hold = refl
