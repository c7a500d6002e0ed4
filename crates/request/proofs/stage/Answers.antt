-- The loop keeps that the bytes so far, and those of the numbers left, are all.
use Rattle.std.proofs.lemmas.Result.{err_from_is_err_and}
use Rattle.refusal.proofs.Laws.{refused_lem}
use Rattle.leb128.proofs.Results.{array_ok, array_within, encoded_err}
use Rattle.request.proofs.Writing.{stops, goes_on}
use Rattle.request.proofs.stage.Goals as goal

pub returns-in_err-encoded-clause-judged : goal.returns-in_err-encoded-clause-judged
returns-in_err-encoded-clause-judged c =
    let p = err_from_is_err_and c.from_residual.result c.from_residual.ensures.1 in
    let e = encoded_err _ _ (refused_lem c.in_err-encoded.field-0.0) c.in_err-encoded.ensures in
    rw (p.1, p.2) (rw (e.1, stops c.loop-number.invariant c.loop-number-test.true e.0))

pub shared_ref_as_front-try_extend_from_slice : goal.shared_ref_as_front-try_extend_from_slice
shared_ref_as_front-try_extend_from_slice c = array_within _ _ _ c.in_ok-encoded.ensures

pub loop-number-preserved : goal.loop-number-preserved
loop-number-preserved c =
    let e = array_ok _ _ _ c.in_ok-encoded.ensures in
    let all = rw c.unwrap.ensures at c.try_extend_from_slice.ensures.ok in
    rw (all, e.1.1) (goes_on c.loop-number.invariant c.loop-number-test.true e.0)
