use Rattle.std.proofs.Common.{refl}
use Rattle.std.proofs.lemmas.Result.{err_from_is_err_and}
use Rattle.flat.specs.States.{is_state, state_of, state_in}
use Rattle.planner.specs.Submission.{submission}
use Rattle.planner.specs.Planned.{planned}
use Rattle.planner.specs.Buffer.{tx_after}
use Rattle.capi.specs.Answers.{buffer_from}
use Rattle.capi.proofs.Through.{buffer_through}
use Rattle.capi.proofs.Answered.{plan_through}
use Rattle.capi.proofs.requests.plan.Goals as goal

pub returns : goal.returns
unfolding state_in buffer_from
returns c =
    let a = c.args in (
      plan_through a.state (λ s. planned s (submission a.party a.request a.tx.now a.at)) c.try_from.result c.plan.result c.try_from.ensures
          (rw c.in_ok-before.was c.plan.ensures.planned.0),
      buffer_through (is_state a.state) (state_of a.state) (λ s. tx_after s (submission a.party a.request a.tx.now a.at) a.tx.now a.at)
          a.tx.now c.plan.new.tx c.try_from.result c.try_from.ensures (rw c.in_ok-before.was c.plan.ensures.planned.1),
    )

pub returns-in_err-before : goal.returns-in_err-before
unfolding state_in buffer_from
returns-in_err-before c =
    let a = c.args in
    let p = err_from_is_err_and c.from_residual.result c.from_residual.ensures.1 in (
      plan_through a.state (λ s. planned s (submission a.party a.request a.tx.now a.at)) c.try_from.result c.from_residual.result c.try_from.ensures
          (rw c.in_err-before.was (rw (p.1, p.2) refl)),
      buffer_through (is_state a.state) (state_of a.state) (λ s. tx_after s (submission a.party a.request a.tx.now a.at) a.tx.now a.at)
          a.tx.now a.tx.now c.try_from.result c.try_from.ensures (rw c.in_err-before.was refl),
    )
