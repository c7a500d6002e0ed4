-- What is claimed of the answers on a bench beyond the contracts, as Claims has it for one converter.
use Rattle.std.specs.Prelude.{ℕ, ◌≡◌, false, List, ℤ, pos, length}
use Rattle.refusal.specs.First.{accepted}
use Rattle.planner.specs.Submission.{Submission}
use Rattle.lines.specs.Lines.{converter_count}
use Rattle.bench.specs.Line.{bench_stepped, bench_deselected, bench_sampled}
use Rattle.bench_grants.specs.Grant.{bench_granted}
use Rattle.bench_readings.specs.Reading.{bench_reading}
use Rattle.bench_planner.specs.Planned.{bench_planned}
use Rattle.bench_planner.specs.Buffer.{bench_tx_after}
use Rattle.flat_bench.specs.declared.FlatBench.{FlatBench}
use Rattle.flat_bench.specs.Flat.{bench_of}
use Rattle.capi.specs.BenchAnswers.{bench_stepped_from, bench_moved_from, bench_reading_from, bench_planned_from, bench_buffer_from}

-- every refused call on this flat form hands back the very bytes that it was given
pub record HandedBack (f : FlatBench) : Type 0 where
  pub steps : (k byte : ℕ) → accepted (bench_stepped_from f (bench_stepped (bench_of f) k byte)).refusal ≡ false
      → (bench_stepped_from f (bench_stepped (bench_of f) k byte)).next ≡ f
  pub deselects : (k : ℕ) → accepted (bench_moved_from f (bench_deselected (bench_of f) k)).refusal ≡ false
      → (bench_moved_from f (bench_deselected (bench_of f) k)).next ≡ f
  pub samples : (k : ℕ) (codes : List ℤ) (p n : ℕ) → accepted (bench_moved_from f (bench_sampled (bench_of f) k codes p n)).refusal ≡ false
      → (bench_moved_from f (bench_sampled (bench_of f) k codes p n)).next ≡ f
  pub grants : (caller receiver n : ℕ) → accepted (bench_moved_from f (bench_granted (bench_of f) caller receiver n)).refusal ≡ false
      → (bench_moved_from f (bench_granted (bench_of f) caller receiver n)).next ≡ f
  pub plans : (x : Submission) → accepted (bench_planned_from f (bench_planned (bench_of f) x)).refusal ≡ false
      → (bench_planned_from f (bench_planned (bench_of f) x)).next ≡ f
  pub plan_buffers : (x : Submission) (tx : List ℕ) (at : ℕ)
      → accepted (bench_planned_from f (bench_planned (bench_of f) x)).refusal ≡ false
      → bench_buffer_from f (bench_tx_after (bench_of f) x tx at) tx ≡ tx

-- A refusal on a bench, whichever it is, hands back the very bytes that it was given, those of a buffer too.
abbrev pub BenchHandsBack : Type 0
BenchHandsBack = (f : FlatBench) → length f.converters ≡ converter_count → HandedBack f

-- A refused reading on a bench gives 0 for everything but its number.
abbrev pub BenchRefusedReadings : Type 0
BenchRefusedReadings =
    (f : FlatBench) (k party n : ℕ) (frame : List ℕ)
    → accepted (bench_reading_from f (bench_reading (bench_of f) k party n frame)).refusal ≡ false
    → bench_reading_from f (bench_reading (bench_of f) k party n frame)
    ≡ record { refusal = (bench_reading_from f (bench_reading (bench_of f) k party n frame)).refusal; p = 0; n = 0; rail = 0; code = pos 0 }
