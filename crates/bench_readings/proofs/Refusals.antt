-- A reading's rail is its code's, and the two reading calls are refused together: the channel's converter answers both.
use Rattle.cases.proofs.Cases.{split}
use Rattle.ads1299_codes.specs.Rails.{stands_for, rail_of}
use Rattle.readings.proofs.Refusals as single
use Rattle.lines.specs.Lines.{converter_of, channel_on}
use Rattle.bench.specs.Bench.{at, valid_bench}
use Rattle.bench_readings.specs.Reading.{bench_reading, bench_part_bytes}
use Rattle.bench_readings.specs.Claims.{ThreeOrNone, RailOfCode}

pub three_or_none : ThreeOrNone
unfolding bench_reading bench_part_bytes
three_or_none b k party n frame =
    split (valid_bench b) (λ v. rw v (single.three_or_none (at b (converter_of n)) party (channel_on k n) frame)) (λ v. rw v)

pub rail_of_code : RailOfCode
unfolding bench_reading stands_for rail_of
rail_of_code b k party n frame =
    split (valid_bench b) (λ v. rw v (single.rail_of_code (at b (converter_of n)) party (channel_on k n) frame)) (λ v. rw v)
