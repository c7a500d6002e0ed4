-- The loop keeps that the numbers so far, and the series of those left, are the whole.
use Rattle.std.proofs.lemmas.Result.{err_from_is_err_and}
use borrow.Author.Rules.{part_to_end}
use borrow.Author.Tests.{eqb-false}
use mathlib.Core.List.{List}
use mathlib.Core.Path.{◌≡◌, refl, ap, ◌∙◌}
use native.Mathlib.Omega.{arith}
use Prim.Native.Nat.{ℕ, ◌-◌}
use lib.ListN.{length, take, drop}
use Rattle.refusal.proofs.Laws.{refused_lem}
use Rattle.leb128.specs.Answers.{Number}
use Rattle.leb128.specs.Numbers.{groups}
use Rattle.leb128.specs.Decoding.{decoded}
use Rattle.request.specs.Requests.{most_numbers}
use Rattle.leb128.specs.Encoding.{padded}
use Rattle.request.proofs.Padding.{first_more, first_padded, only_zeros}
use Rattle.request.proofs.Reading.{begins, stops, within_more, stored, ends}
use Rattle.request.proofs.read_series.Goals as goal

-- the number at the loop's place
number : (bytes : List ℕ) (used : ℕ) (n : Number) → n ≡ decoded groups (take (length bytes - used) (drop used bytes)) → n ≡ decoded groups (drop used bytes)
number bytes used n e = e ∙ ap (λ (part : List ℕ). decoded groups part) (part_to_end bytes used)

pub loop-i-init : goal.loop-i-init
loop-i-init c = (begins c.args.count c.args.bytes.now, only_zeros)

pub returns-in_err-number-clause-judged : goal.returns-in_err-number-clause-judged
returns-in_err-number-clause-judged c =
    let p = err_from_is_err_and c.from_residual.result c.from_residual.ensures.1 in
    let is = number c.args.bytes.now c.loop-i.used _ c.in_err-number.ensures in
    rw (p.1, p.2) (stops c.loop-i.invariant.0 c.loop-i-test.true _ is (eqb-false _ _ (refused_lem c.in_err-number.field-0.0)))

pub overflow_add-used : goal.overflow_add-used
overflow_add-used c =
    let is = number c.args.bytes.now c.loop-i.used _ c.in_ok-number.ensures in
    omega (arith, within_more c.loop-i.invariant.0 c.loop-i-test.true _ is)

pub loop-i-preserved : goal.loop-i-preserved
loop-i-preserved c =
    let is = number c.args.bytes.now c.loop-i.used _ c.in_ok-number.ensures in
    let o = c.loop-i.invariant.1 in (
      stored c.loop-i.numbers (omega (arith, o.long, c.requires, c.loop-i-test.true)) c.loop-i.invariant.0 c.loop-i-test.true _ is refl,
      first_more c.loop-i.numbers c.loop-i.i _ (omega (arith, c.requires, c.loop-i-test.true)) o,
    )

pub returns-clause-numbers : goal.returns-clause-numbers
returns-clause-numbers c =
    let l = c.loop-i in
    first_padded l.numbers l.i (omega (arith, c.requires, l.auto.i-end)) l.invariant.1
    ∙ ap (λ (numbers : List ℕ). padded most_numbers numbers) (ends l.invariant.0 c.loop-i-test.false).1.0
