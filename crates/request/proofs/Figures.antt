-- The figures hold, by computation.
use mathlib.Core.Path.{refl}
use Rattle.leb128.specs.Encoding.{encoded, padded}
use Rattle.leb128.specs.Decoding.{decoded}
use Rattle.leb128.specs.Series.{series, series_bytes}
use Rattle.request.specs.Requests.{numbers_of, request_of, request_bytes}
use Rattle.request.specs.Reading.{numbers_in, numbers_read, read_refusal, parsed}
use Rattle.request.specs.Figures.{FiguresHold}

pub figures_hold : FiguresHold
unfolding parsed read_refusal numbers_read numbers_in series decoded request_of request_bytes numbers_of series_bytes encoded padded
figures_hold = refl
