-- What the calls on a bench answer: as Answers has it for one converter, with benches in flat form, and 13 where a flat form stands for no bench.
use Rattle.std.specs.Prelude.{ℕ, cond, List, length}
use Rattle.refusal.specs.Numbers.{invalid_state}
use Rattle.readings.specs.Answers.{Reading}
use Rattle.bench.specs.declared.Bench.{Bench}
use Rattle.bench.specs.Answers.{BenchPoweredUp, BenchStepped, BenchMoved}
use Rattle.bench_planner.specs.Answers.{BenchPlanned}
use Rattle.bench_readings.specs.Reading.{bench_reading, bench_part_bytes, bench_part_place}
use Rattle.flat_bench.specs.declared.FlatBench.{FlatBench}
use Rattle.flat_bench.specs.Flat.{flat_bench, is_bench}
use Rattle.capi.specs.declared.FlatBenchPoweredUp.{FlatBenchPoweredUp}
use Rattle.capi.specs.declared.FlatBenchStepped.{FlatBenchStepped}
use Rattle.capi.specs.declared.FlatBenchMoved.{FlatBenchMoved}
use Rattle.capi.specs.declared.FlatBenchPlanned.{FlatBenchPlanned}
use Rattle.capi.specs.declared.FlatReading.{FlatReading}
use Rattle.capi.specs.declared.FlatPart.{FlatPart}
use Rattle.capi.specs.Answers.{flat_reading, refused_reading, no_part}

-- gives the answer of power-up
abbrev pub flat_bench_powered_up : BenchPoweredUp → FlatBenchPoweredUp
flat_bench_powered_up a = record { refusal = a.refusal; bench = flat_bench a.bench }

-- gives the answer to a byte
unfoldable pub bench_stepped_from : FlatBench → BenchStepped → FlatBenchStepped
bench_stepped_from f a =
    cond (is_bench f)
    (record { refusal = a.refusal; out = a.out; next = flat_bench a.next })
    (record { refusal = invalid_state; out = 0; next = f })

-- gives the answer to a flat form that stands for no bench: the same bytes
abbrev pub rejected_bench : FlatBench → FlatBenchMoved
rejected_bench f = record { refusal = invalid_state; next = f }

-- gives the answer to a select rise, a sample or a grant
unfoldable pub bench_moved_from : FlatBench → BenchMoved → FlatBenchMoved
bench_moved_from f a = cond (is_bench f) (record { refusal = a.refusal; next = flat_bench a.next }) (rejected_bench f)

-- gives the answer to a reading
unfoldable pub bench_reading_from : FlatBench → Reading → FlatReading
bench_reading_from f a = cond (is_bench f) (flat_reading a) (refused_reading invalid_state)

-- gives the part that the second reading call hands back, as its start and length in the caller's frame; refused where a reading is
unfoldable pub bench_part : Bench → ℕ → ℕ → ℕ → List ℕ → FlatPart
bench_part b k party n frame =
    record {
      refusal = (bench_reading b k party n frame).refusal;
      start = bench_part_place b k party n frame;
      length = length (bench_part_bytes b k party n frame);
    }

-- gives the answer to the second reading call
unfoldable pub bench_part_from : FlatBench → FlatPart → FlatPart
bench_part_from f a = cond (is_bench f) a (no_part invalid_state)

-- gives the answer of the planner
unfoldable pub bench_planned_from : FlatBench → BenchPlanned → FlatBenchPlanned
bench_planned_from f a =
    cond (is_bench f)
    (record { refusal = a.refusal; converter = a.converter; length = a.length; next = flat_bench a.next })
    (record { refusal = invalid_state; converter = 0; length = 0; next = f })

-- gives the transmit buffer after a request, from what it would hold and what it held
unfoldable pub bench_buffer_from : FlatBench → List ℕ → List ℕ → List ℕ
bench_buffer_from f after tx = cond (is_bench f) after tx
