-- What is claimed of values that a request's field does not use, on the bench.
use Rattle.std.specs.Prelude.{◌≡◌}
use Rattle.refusal.specs.First.{first_of}
use Rattle.ads1299_settings.specs.Settings.{Values}
use Rattle.planner.specs.Submission.{Submission}
use Rattle.planner.specs.Unused.{numbered}
use Rattle.bench.specs.declared.Bench.{Bench}
use Rattle.bench_planner.specs.Refusals.{bench_refusals}
use Rattle.bench_planner.specs.Planned.{bench_planned, bench_plan}

-- Nothing on the bench looks at values that a request's field does not use: not its refusal, its plan, nor its answer.
pub record UnusedValues : Type 0 where
  pub same_refusal : (b : Bench) (values : Values) (x : Submission) → first_of (bench_refusals b values (numbered x)) ≡ first_of (bench_refusals b values x)
  pub same_plan : (b : Bench) (x : Submission) → bench_plan b (numbered x) ≡ bench_plan b x
  pub same_answer : (b : Bench) (x : Submission) → bench_planned b (numbered x) ≡ bench_planned b x
