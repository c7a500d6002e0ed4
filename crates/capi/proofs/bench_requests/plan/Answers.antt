use Rattle.std.proofs.Common.{refl, rules}
use Rattle.std.proofs.lemmas.Result.{err_from_is_err_and}
use Rattle.planner.specs.Submission.{submission}
use Rattle.bench_planner.specs.Planned.{bench_planned}
use Rattle.bench_planner.specs.Buffer.{bench_tx_after}
use Rattle.flat_bench.specs.Flat.{is_bench, bench_of, bench_in}
use Rattle.capi.specs.BenchAnswers.{bench_buffer_from}
use Rattle.capi.proofs.Through.{buffer_through}
use Rattle.capi.proofs.BenchAnswered.{bench_plan_through}
use Rattle.capi.proofs.bench_requests.plan.Goals as goal

pub returns : goal.returns
unfolding bench_in bench_buffer_from
returns c =
    let a = c.args in (
      bench_plan_through a.bench (search rules) (λ b. bench_planned b (submission a.party a.request a.tx.now a.at)) c.try_from.result c.plan_borrowed.result c.try_from.ensures
          (rw c.in_ok-before.was c.plan_borrowed.ensures.0),
      buffer_through (is_bench a.bench) (bench_of a.bench) (λ b. bench_tx_after b (submission a.party a.request a.tx.now a.at) a.tx.now a.at)
          a.tx.now c.plan_borrowed.new.tx c.try_from.result c.try_from.ensures (rw c.in_ok-before.was c.plan_borrowed.ensures.1),
    )

pub returns-in_err-before : goal.returns-in_err-before
unfolding bench_in bench_buffer_from
returns-in_err-before c =
    let a = c.args in
    let p = err_from_is_err_and c.from_residual.result c.from_residual.ensures.1 in (
      bench_plan_through a.bench (search rules) (λ b. bench_planned b (submission a.party a.request a.tx.now a.at)) c.try_from.result c.from_residual.result c.try_from.ensures
          (rw c.in_err-before.was (rw (p.1, p.2) refl)),
      buffer_through (is_bench a.bench) (bench_of a.bench) (λ b. bench_tx_after b (submission a.party a.request a.tx.now a.at) a.tx.now a.at)
          a.tx.now a.tx.now c.try_from.result c.try_from.ensures (rw c.in_err-before.was refl),
    )
