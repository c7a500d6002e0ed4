-- Refusals on a bench hand back the bytes that they were given, and a refused reading tells its number alone: what demand 1 on the bench says,
-- through the flat form.
use mathlib.Core.Path.{◌≡◌, refl, ap, ◌∙◌}
use mathlib.Core.Bool.{true, false}
use lib.ListN.{length}
use Rattle.cases.proofs.Cases.{split}
use Rattle.refusal.specs.First.{accepted}
use Rattle.demand1.proofs.Demand1.{kept_by}
use Rattle.lines.specs.Lines.{converter_count}
use Rattle.bench.specs.declared.Bench.{Bench}
use Rattle.bench.specs.Answers.{BenchMoved, BenchStepped}
use Rattle.bench.specs.Line.{bench_deselected, bench_sampled}
use Rattle.bench_grants.specs.Grant.{bench_granted}
use Rattle.bench_planner.specs.Answers.{BenchPlanned}
use Rattle.bench_demand1.proofs.Demand1.{bench_demand1, sample_kept, grant_kept, reading_kept, plan_kept, tx_kept}
use Rattle.flat_bench.specs.declared.FlatBench.{FlatBench}
use Rattle.flat_bench.specs.Flat.{flat_bench, is_bench, bench_of}
use Rattle.flat_bench.proofs.RoundTrip.{round_trip}
use Rattle.capi.specs.Answers.{flat_reading, refused_reading}
use Rattle.capi.specs.BenchAnswers.{bench_stepped_from, bench_moved_from, bench_reading_from, bench_planned_from, bench_buffer_from}
use Rattle.capi.specs.BenchClaims.{BenchHandsBack, BenchRefusedReadings}

module _ (f : FlatBench) (size : length f.converters ≡ converter_count) where
  -- a bench that was kept, in its flat form
  flat_kept : (next : Bench) → is_bench f ≡ true → next ≡ bench_of f → flat_bench next ≡ f
  flat_kept next stands e = ap flat_bench e ∙ round_trip.returns_flat f size stands

  moved_kept : (a : BenchMoved) → (accepted a.refusal ≡ false → a.next ≡ bench_of f)
      → accepted (bench_moved_from f a).refusal ≡ false → (bench_moved_from f a).next ≡ f
  unfolding bench_moved_from
  moved_kept a kept = split (is_bench f) (λ v. rw v (λ e. flat_kept a.next v (kept e))) (λ v. rw v (λ e. refl))

abbrev next_of : BenchMoved → Bench
next_of a = a.next

pub bench_hands_back : BenchHandsBack
unfolding bench_stepped_from bench_planned_from bench_buffer_from
bench_hands_back f size =
    let b = bench_of f in
    record {
      steps = λ k byte. split (is_bench f)
          (λ v. rw v (λ e. flat_kept f size _ v (ap (λ (a : BenchStepped). a.next) (kept_by (bench_demand1.step b k byte) e))))
          (λ v. rw v (λ e. refl));
      deselects = λ k. moved_kept f size (bench_deselected b k) (λ e. ap next_of (kept_by (bench_demand1.deselect b k) e));
      samples = λ k codes p n. moved_kept f size (bench_sampled b k codes p n) (λ e. ap next_of (sample_kept b k codes p n e));
      grants = λ caller receiver n. moved_kept f size (bench_granted b caller receiver n) (λ e. ap next_of (grant_kept b caller receiver n e));
      plans = λ x. split (is_bench f)
          (λ v. rw v (λ e. flat_kept f size _ v (ap (λ (a : BenchPlanned). a.next) (plan_kept b x e))))
          (λ v. rw v (λ e. refl));
      plan_buffers = λ x tx at. split (is_bench f) (λ v. rw v (λ e. tx_kept b x tx at e)) (λ v. rw v (λ e. refl));
    }

pub bench_refused_readings : BenchRefusedReadings
unfolding bench_reading_from flat_reading refused_reading
bench_refused_readings f k party n frame =
    split (is_bench f)
    (λ v. rw v (λ e. ap flat_reading (reading_kept (bench_of f) k party n frame e)))
    (λ v. rw v (λ e. refl))
