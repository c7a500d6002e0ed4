-- A request and its own numbers are the same to the bench, since they are to the converter that they name.
use mathlib.Core.Path.{◌≡◌}
use Rattle.refusal.specs.First.{first_of}
use Rattle.ads1299_settings.specs.Settings.{Values}
use Rattle.request.specs.Requests.{numbers_of, request_of}
use Rattle.planner.specs.Submission.{Submission}
use Rattle.planner.specs.Unused.{numbered}
use Rattle.planner.proofs.Unused as one
use Rattle.bench.specs.declared.Bench.{Bench}
use Rattle.bench.specs.Bench.{at}
use Rattle.bench_planner.specs.Local.{target, local_request, localised}
use Rattle.bench_planner.specs.Refusals.{bench_refusals}
use Rattle.bench_planner.specs.Planned.{bench_planned, bench_plan}
use Rattle.bench_planner.specs.Unused.{UnusedValues}

same_refusal : (b : Bench) (values : Values) (x : Submission) → first_of (bench_refusals b values (numbered x)) ≡ first_of (bench_refusals b values x)
unfolding request_of numbers_of
same_refusal b values x = rw ((one.unused_values).same_settings x.request)

same_plan : (b : Bench) (x : Submission) → bench_plan b (numbered x) ≡ bench_plan b x
unfolding bench_plan local_request request_of numbers_of
same_plan b x = rw ((one.unused_values).same_plan (at b (target x)) (localised x))

same_answer : (b : Bench) (x : Submission) → bench_planned b (numbered x) ≡ bench_planned b x
unfolding bench_planned local_request request_of numbers_of
same_answer b x = rw ((one.unused_values).same_answer (at b (target x)) (localised x))

pub unused_values : UnusedValues
unused_values = record { same_refusal = same_refusal; same_plan = same_plan; same_answer = same_answer }
