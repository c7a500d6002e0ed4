-- A refused request leaves the bench as it was.
use Rattle.std.specs.Prelude.{Err}
use mathlib.Core.Path.{◌≡◌}
use borrow.Author.Tests.{eqb-false}
use Rattle.cases.proofs.Cases.{split}
use Rattle.refusal.specs.Numbers.{none}
use Rattle.refusal.specs.declared.Refusal.{Refusal}
use Rattle.refusal.specs.First.{accepted}
use Rattle.refusal.specs.Refusals.{number_of}
use Rattle.refusal.proofs.Laws.{refused_lem}
use Rattle.planner.specs.Submission.{Submission}
use Rattle.planner.specs.Planned.{refusal_of, planned}
use Rattle.bench.specs.declared.Bench.{Bench}
use Rattle.bench.specs.Bench.{at, valid_bench}
use Rattle.bench.proofs.Converters.{with_same}
use Rattle.bench_planner.specs.Local.{target, localised}
use Rattle.bench_planner.specs.Answers.{bench_plan_answer}
use Rattle.bench_planner.specs.Planned.{bench_planned}

pub kept : (b : Bench) (x : Submission) (r : Refusal) → number_of r ≡ (bench_planned b x).refusal → bench_plan_answer b (Err r) ≡ bench_planned b x
unfolding bench_planned planned
kept b x r e =
    split (valid_bench b)
    (λ v.
    split (accepted (refusal_of (at b (target x)) (localised x)))
    (λ a. absurd (eqb-false (number_of r) none (refused_lem r) (rw (v, a) at e)))
    (λ a. rw (v, a, a, rw (v, a) at e, with_same b (target x))))
    (λ v. rw (v, rw v at e))
