-- The figures hold, by computation.
use mathlib.Core.Path.{refl}
use Rattle.ads1299_codes.specs.Codes.{word_of, code_of}
use Rattle.ads1299_codes.specs.Words.{word, word_bytes, word_at}
use Rattle.ads1299_codes.specs.Rails.{stands_for, rail_of}
use Rattle.ads1299_codes.specs.Figures.{FiguresHold}

pub figures_hold : FiguresHold
unfolding word_of code_of word word_bytes word_at stands_for rail_of
figures_hold = refl
