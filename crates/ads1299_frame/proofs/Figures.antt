-- The figures hold, by computation.
use mathlib.Core.Path.{refl}
use Rattle.bits.specs.Fields.{field, bit}
use Rattle.ads1299_codes.specs.Codes.{word_of}
use Rattle.ads1299_codes.specs.Words.{word_bytes, joined}
use Rattle.ads1299_frame.specs.Frame.{status_word, powered_down, shown, frame_word, frame_of}
use Rattle.ads1299_frame.specs.Figures.{FiguresHold}

pub figures_hold : FiguresHold
unfolding field bit word_of word_bytes joined status_word powered_down shown frame_word frame_of
figures_hold = refl
