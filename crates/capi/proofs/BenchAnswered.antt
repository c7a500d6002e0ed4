-- What the calls answer through the flat form of a bench, as Answered has it for one converter.
use mathlib.Core.Path.{◌≡◌, refl}
use mathlib.Core.Bool.{true}
use Rattle.std.specs.Prelude.{Result, Ok, Err, MatchResult, length}
use Rattle.refusal.specs.declared.Refusal.{Refusal}
use Rattle.lines.specs.Lines.{converter_count}
use Rattle.bench.specs.declared.Bench.{Bench}
use Rattle.ads1299.specs.declared.Exchange.{Exchange}
use Rattle.bench.specs.Answers.{BenchStepped, BenchMoved, bench_step_answer, bench_moved_answer}
use Rattle.readings.specs.declared.Readout.{Readout}
use Rattle.readings.specs.Answers.{Reading, reading_answer}
use Rattle.bench_planner.specs.declared.BenchPlan.{BenchPlan}
use Rattle.bench_planner.specs.Answers.{BenchPlanned, bench_plan_answer}
use Rattle.flat_bench.specs.declared.FlatBench.{FlatBench}
use Rattle.flat_bench.specs.Flat.{is_bench, bench_of, bench_in}
use Rattle.flat_bench.proofs.RoundTrip.{round_trip}
use Rattle.capi.specs.declared.FlatPart.{FlatPart}
use Rattle.capi.specs.declared.answers.Located.{Located}
use Rattle.capi.specs.Answers.{flat_reading, refused_reading}
use Rattle.capi.specs.BenchAnswers.{bench_stepped_from, bench_moved_from, bench_reading_from, bench_part_from, bench_planned_from}
use Rattle.capi.specs.Results.{flat_part_answer, flat_bench_step_answer, flat_bench_moved_answer, flat_bench_plan_answer}
use Rattle.capi.proofs.Through.{through}

module _ (f : FlatBench) (size : length f.converters ≡ converter_count) where
  step_kept : is_bench f ≡ true → (r : Result (Exchange Bench) Refusal)
      → flat_bench_step_answer f r ≡ bench_stepped_from f (bench_step_answer (bench_of f) r)
  unfolding bench_stepped_from
  step_kept v (Ok exchange) = rw v refl
  step_kept v (Err refusal) = rw (v, round_trip.returns_flat f size v) refl

  moved_kept : is_bench f ≡ true → (r : Result Bench Refusal)
      → flat_bench_moved_answer f r ≡ bench_moved_from f (bench_moved_answer (bench_of f) r)
  unfolding bench_moved_from
  moved_kept v (Ok next) = rw v refl
  moved_kept v (Err refusal) = rw (v, round_trip.returns_flat f size v) refl

  plan_kept : is_bench f ≡ true → (r : Result BenchPlan Refusal)
      → flat_bench_plan_answer f r ≡ bench_planned_from f (bench_plan_answer (bench_of f) r)
  unfolding bench_planned_from
  plan_kept v (Ok plan) = rw v refl
  plan_kept v (Err refusal) = rw (v, round_trip.returns_flat f size v) refl

  pub bench_step_through : (a : Bench → BenchStepped) (o : Result Bench Refusal) (r : Result (Exchange Bench) Refusal)
      → o ≡ bench_in f → MatchResult o (λ b. bench_step_answer b r ≡ a b) (λ e. r ≡ Err e)
      → flat_bench_step_answer f r ≡ bench_stepped_from f (a (bench_of f))
  unfolding bench_stepped_from bench_in
  bench_step_through = through (is_bench f) (bench_of f) bench_step_answer (flat_bench_step_answer f) (bench_stepped_from f) (record { on_state = step_kept; on_none = λ v a. rw v refl })

  pub bench_moved_through : (a : Bench → BenchMoved) (o r : Result Bench Refusal)
      → o ≡ bench_in f → MatchResult o (λ b. bench_moved_answer b r ≡ a b) (λ e. r ≡ Err e)
      → flat_bench_moved_answer f r ≡ bench_moved_from f (a (bench_of f))
  unfolding bench_moved_from bench_in
  bench_moved_through = through (is_bench f) (bench_of f) bench_moved_answer (flat_bench_moved_answer f) (bench_moved_from f) (record { on_state = moved_kept; on_none = λ v a. rw v refl })

  pub bench_plan_through : (a : Bench → BenchPlanned) (o : Result Bench Refusal) (r : Result BenchPlan Refusal)
      → o ≡ bench_in f → MatchResult o (λ b. bench_plan_answer b r ≡ a b) (λ e. r ≡ Err e)
      → flat_bench_plan_answer f r ≡ bench_planned_from f (a (bench_of f))
  unfolding bench_planned_from bench_in
  bench_plan_through =
      through (is_bench f) (bench_of f) bench_plan_answer (flat_bench_plan_answer f) (bench_planned_from f)
      (record { on_state = plan_kept; on_none = λ v a. rw v refl })

module _ (f : FlatBench) where
  pub bench_reading_through : (a : Bench → Reading) (o : Result Bench Refusal) (r : Result Readout Refusal)
      → o ≡ bench_in f → MatchResult o (λ b. reading_answer r ≡ a b) (λ e. r ≡ Err e)
      → flat_reading (reading_answer r) ≡ bench_reading_from f (a (bench_of f))
  unfolding bench_reading_from flat_reading refused_reading bench_in
  bench_reading_through =
      through (is_bench f) (bench_of f) (λ b. reading_answer) (λ r. flat_reading (reading_answer r)) (bench_reading_from f)
      (record { on_state = λ v r. rw v refl; on_none = λ v a. rw v refl })

  pub bench_part_through : (a : Bench → FlatPart) (o : Result Bench Refusal) (r : Result Located Refusal)
      → o ≡ bench_in f → MatchResult o (λ b. flat_part_answer r ≡ a b) (λ e. r ≡ Err e)
      → flat_part_answer r ≡ bench_part_from f (a (bench_of f))
  unfolding bench_part_from bench_in
  bench_part_through =
      through (is_bench f) (bench_of f) (λ b. flat_part_answer) flat_part_answer (bench_part_from f)
      (record { on_state = λ v r. rw v refl; on_none = λ v a. rw v refl })
