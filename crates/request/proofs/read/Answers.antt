use Rattle.std.proofs.lemmas.Result.{err_from_is_err_and}
use borrow.Author.Tests.{eqb-false}
use mathlib.Core.Path.{◌≡◌, sym, ap, ◌∙◌}
use native.Mathlib.Omega.{arith}
use Rattle.refusal.proofs.Laws.{refused_lem}
use Rattle.refusal.specs.Numbers.{none}
use Rattle.refusal.specs.Refusals.{number_of}
use Rattle.leb128.specs.Answers.{Number}
use Rattle.request.specs.Requests.{most_numbers, request_of}
use Rattle.leb128.specs.Encoding.{padded}
use Rattle.request.specs.Reading.{numbers_read, read_refusal, refused}
use Rattle.request.proofs.Padding.{request_padded}
use Rattle.request.proofs.Reading.{numbers_between, numbers_many, counting, field_refused, series_refused, series_found}
use Rattle.request.proofs.read.Goals as goal

pub returns-in_err-field : goal.returns-in_err-field
returns-in_err-field c =
    let p = err_from_is_err_and c.from_residual.result c.from_residual.ensures.1 in
    let e = ap (λ (n : Number). n.refusal) c.in_err-field.ensures in
    let h = eqb-false _ _ (refused_lem c.in_err-field.field-0.0) in
    rw (p.1, p.2) (ap refused e ∙ sym (field_refused c.args.bytes.now (λ z. h (e ∙ z))))

-- the count of the numbers is the definition's
pub returns-in_err-series : goal.returns-in_err-series
unfolding read_refusal numbers_read
returns-in_err-series c =
    let bytes = c.args.bytes.now in
    let p = err_from_is_err_and c.from_residual-in_err-series.result c.from_residual-in_err-series.ensures.1 in
    let n = counting bytes _ _ _ c.in_ok-field.ensures c.count_values.ensures in
    let e : number_of c.in_err-series.field-0.0 ≡ read_refusal bytes = rw n at c.in_err-series.ensures.judged in
    let h = eqb-false _ _ (refused_lem c.in_err-series.field-0.0) in
    rw (p.1, p.2) (ap refused e ∙ sym (series_refused bytes (λ z. h (e ∙ z))))

pub read_series-requires : goal.read_series-requires
read_series-requires c =
    let bytes = c.args.bytes.now in
    omega (arith, counting bytes _ _ _ c.in_ok-field.ensures c.count_values.ensures, (numbers_between bytes).1)

pub returns : goal.returns
unfolding read_refusal numbers_read
returns c =
    let bytes = c.args.bytes.now in
    let n = counting bytes _ _ _ c.in_ok-field.ensures c.count_values.ensures in
    let b = numbers_between bytes in
    let m = numbers_many bytes in
    let e : c.in_ok-series.series.value ≡ padded most_numbers (numbers_read bytes).numbers = rw n at c.in_ok-series.ensures.numbers in
    let u : c.in_ok-series.series.used ≡ (numbers_read bytes).used = rw n at c.in_ok-series.ensures.used in
    let j : none ≡ read_refusal bytes = rw n at c.in_ok-series.ensures.judged in
    let r : c.request_of.result ≡ request_of (numbers_read bytes).numbers =
    c.request_of.ensures ∙ ap request_of e ∙ request_padded (numbers_read bytes).numbers (omega (arith, b.0, m)) (omega (arith, b.1, m)) in
    rw (r, u) (sym (series_found bytes (sym j)))
