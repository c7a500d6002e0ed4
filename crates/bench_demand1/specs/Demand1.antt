-- Demand 1 on the bench: each of its entry points judges its own input by the refusals as document 02, No. 4 words them, in that order, and a
-- refused call changes nothing.
use Rattle.std.specs.Prelude.{ℕ, ◌≡◌, false, not, List, [], ◌∷◌, ℤ, pos, replicate}
use Rattle.refusal.specs.Numbers.{invalid_state}
use Rattle.refusal.specs.First.{first_of, accepted}
use Rattle.ads1299_codes.specs.declared.Rail.TheVariants.{Neither}
use Rattle.readings.specs.Answers.{Reading}
use Rattle.readings.specs.Reading.{reading}
use Rattle.planner.specs.Submission.{Submission}
use Rattle.demand1.specs.Demand1.{Judges}
use Rattle.lines.specs.Lines.{converter_count}
use Rattle.bench.specs.declared.Bench.{Bench}
use Rattle.bench.specs.Answers.{BenchPoweredUp, BenchStepped, BenchMoved}
use Rattle.bench.specs.Formed.{FormedBench}
use Rattle.bench.specs.PowerUp.{valid_ids, started, bench_powered_up}
use Rattle.bench.specs.Line.{line_refusals, bench_sample_refusals, bench_moved, bench_stepped, bench_deselected, bench_sampled}
use Rattle.bench_grants.specs.Grant.{bench_granted, bench_grant_refusals}
use Rattle.bench_readings.specs.Reading.{bench_reading, bench_part_bytes, bench_reading_refusals}
use Rattle.bench_planner.specs.Answers.{BenchPlanned}
use Rattle.bench_planner.specs.Fields.{bench_field}
use Rattle.bench_planner.specs.Refusals.{bench_refusals}
use Rattle.bench_planner.specs.Planned.{bench_planned}
use Rattle.bench_planner.specs.Buffer.{bench_tx_after}
use Rattle.bench_live.specs.Answers.{Answer}
use Rattle.bench_live.specs.Answers.{answer_of}

-- Every entry point of the bench judges its own input, and a refused call changes nothing.
pub record BenchDemand1 : Type 0 where
  pub power_up : (ids : List ℕ)
      → Judges ((not (valid_ids ids), invalid_state) ∷ []) (λ (a : BenchPoweredUp). a.refusal) (bench_powered_up ids)
      (λ n. record { refusal = n; bench = started (replicate converter_count 0) })
  pub step : (b : Bench) (k byte : ℕ)
      → Judges (line_refusals b k) (λ (a : BenchStepped). a.refusal) (bench_stepped b k byte) (λ n. record { refusal = n; out = 0; next = b })
  pub deselect : (b : Bench) (k : ℕ) → Judges (line_refusals b k) (λ (a : BenchMoved). a.refusal) (bench_deselected b k) (λ n. bench_moved n b)
  pub sample : (b : Bench) (k : ℕ) (codes : List ℤ) (p n : ℕ)
      → Judges (bench_sample_refusals b k codes) (λ (a : BenchMoved). a.refusal) (bench_sampled b k codes p n) (λ m. bench_moved m b)
  pub grant : (b : Bench) (caller receiver n : ℕ)
      → Judges (bench_grant_refusals b caller receiver n) (λ (a : BenchMoved). a.refusal) (bench_granted b caller receiver n) (λ m. bench_moved m b)
  pub read_channel : (b : Bench) → FormedBench b → (k party n : ℕ) (frame : List ℕ)
      → Judges (bench_reading_refusals b k party n frame) (λ (a : Reading). a.refusal) (bench_reading b k party n frame)
      (λ m. reading m (pos 0) Neither false false)
  pub channel_bytes : (b : Bench) → FormedBench b → (k party n : ℕ) (frame : List ℕ)
      → accepted (first_of (bench_reading_refusals b k party n frame)) ≡ false
      → bench_part_bytes b k party n frame ≡ []
  pub plan : (b : Bench) → FormedBench b → (x : Submission)
      → Judges (bench_refusals b (bench_field b) x) (λ (a : BenchPlanned). a.refusal) (bench_planned b x)
      (λ n. record { refusal = n; converter = 0; length = 0; next = b })
  pub tx_kept : (b : Bench) → FormedBench b → (x : Submission) (tx : List ℕ) (at : ℕ)
      → accepted (first_of (bench_refusals b (bench_field b) x)) ≡ false
      → bench_tx_after b x tx at ≡ tx
  -- the live planner: what it answers, and the bench that was lent to it, beside the transmit buffer above
  pub plan_live : (b : Bench) → FormedBench b → (x : Submission)
      → Judges (bench_refusals b (bench_field b) x) (λ (a : Answer). a.refusal) (answer_of (bench_planned b x))
      (λ n. record { refusal = n; converter = 0; length = 0 })
  pub live_kept : (b : Bench) → FormedBench b → (x : Submission)
      → accepted (first_of (bench_refusals b (bench_field b) x)) ≡ false
      → (bench_planned b x).next ≡ b
