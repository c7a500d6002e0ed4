-- The figures hold, by computation.
use mathlib.Core.Path.{refl}
use Rattle.leb128.specs.Encoding.{encoded}
use Rattle.leb128.specs.Decoding.{decoded}
use Rattle.leb128.specs.Figures.{FiguresHold}

pub figures_hold : FiguresHold
unfolding decoded encoded
figures_hold = refl
