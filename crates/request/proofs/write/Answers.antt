-- What is staged is the request's numbers.
use Rattle.std.proofs.lemmas.Result.{err_from_is_err_and}
use mathlib.Core.Path.{◌≡◌}
use mathlib.Core.Bool.{true, cond}
use native.Mathlib.Nat.{zero-add}
use Rattle.refusal.specs.Numbers.{none, bad_value}
use Rattle.refusal.specs.Refusals.{number_of}
use Rattle.refusal.proofs.Laws.{refused_lem}
use Rattle.request.specs.Requests.{request_bytes, writable}
use Rattle.request.proofs.Writing.{staged_ok, staged_err, too_large, too_long, fits}
use Rattle.request.proofs.write.Goals as goal

pub returns-in_err-staged : goal.returns-in_err-staged
unfolding writable
returns-in_err-staged c =
    let r = c.args.request in
    let p = err_from_is_err_and c.from_residual.result c.from_residual.ensures.1 in
    let judged : number_of c.in_err-staged.field-0.0 ≡ cond (writable r) none bad_value = rw (c.deref.ensures.0, c.numbers_of.ensures) at c.in_err-staged.ensures.judged in
    let e = staged_err (writable r) _ (refused_lem c.in_err-staged.field-0.0) judged in
    rw (p.1, p.2, e.1) (too_large r c.args.buffer.now e.0)

pub returns-then-buffer-used : goal.returns-then-buffer-used
unfolding writable request_bytes
returns-then-buffer-used c =
    let r = c.args.request in
    let can : writable r ≡ true = staged_ok (writable r) (rw (c.deref.ensures.0, c.numbers_of.ensures) at c.in_ok-staged.ensures.judged) in
    let whole : c.in_ok-staged.staged.items ≡ request_bytes r = rw (c.deref.ensures.0, c.numbers_of.ensures) at c.in_ok-staged.ensures.whole in
    too_long r c.args.buffer.now can (rw whole at (rw c.len-used.ensures.value at c.if-buffer-used.true))

pub returns : goal.returns
unfolding writable request_bytes
returns c =
    let r = c.args.request in
    let can : writable r ≡ true = staged_ok (writable r) (rw (c.deref.ensures.0, c.numbers_of.ensures) at c.in_ok-staged.ensures.judged) in
    let whole : c.in_ok-staged.staged.items ≡ request_bytes r = rw (c.deref.ensures.0, c.numbers_of.ensures) at c.in_ok-staged.ensures.whole in
    let room = rw whole at (rw c.len-used.ensures.value at c.if-buffer-used.false) in
    let f = fits r c.args.buffer.now can room in
    rw (c.copy_from_slice.ensures.after, c.deref-2.ensures.0, c.len-used.ensures.value, whole) (f.0, rw zero-add at f.1)
