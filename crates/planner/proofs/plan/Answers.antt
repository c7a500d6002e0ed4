-- The part that was lent comes back as the middle of the buffer (Buffer).
use mathlib.Core.Path.{refl, sym}
use Rattle.std.proofs.lemmas.Result.{err_from_is_err_and}
use Rattle.planner.specs.Submission.{submission}
use Rattle.planner.proofs.Buffer.{refused, has_passed, in_part, planned_in}
use Rattle.planner.proofs.plan.Goals as goal

pub returns-in_err-judge-clause-planned : goal.returns-in_err-judge-clause-planned
returns-in_err-judge-clause-planned c =
    let a = c.args in
    let p = err_from_is_err_and c.from_residual.result c.from_residual.ensures.1 in
    rw (p.1, p.2)
    (refused a.c (submission a.party a.request a.tx.now a.at) a.tx.now a.at _ (rw c.count_room.ensures at (c.in_err-judge.ensures.judged)))

pub write_plan-requires : goal.write_plan-requires
write_plan-requires c =
    let a = c.args in
    let asked = submission a.party a.request a.tx.now a.at in
    let agreed = sym (rw c.count_room.ensures at c.in_ok-judge.ensures.judged) in
    ((has_passed a.c asked a.tx.now a.at refl agreed).takes, in_part a.c asked a.tx.now a.at refl agreed c.change-next.result c.change-next.ensures)

pub returns-clause-planned : goal.returns-clause-planned
returns-clause-planned c =
    let a = c.args in
    let asked = submission a.party a.request a.tx.now a.at in
    let agreed = sym (rw c.count_room.ensures at c.in_ok-judge.ensures.judged) in
    planned_in a.c asked a.tx.now a.at refl agreed _ _ _ c.plan_length-length.ensures c.change-next.ensures c.write_plan.ensures
