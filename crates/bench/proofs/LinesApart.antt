-- Each converter goes by its own bytes alone.
use Prim.Native.Nat.{ℕ, ◌<◌}
use mathlib.Core.Path.{◌≡◌, refl, sym, ◌∙◌, ap}
use mathlib.Core.Bool.{true, false}
use mathlib.Core.List.{List, [], ◌∷◌}
use native.Mathlib.Omega.{arith}
use borrow.Author.Tests.{eqb-true, eqb-false, ne_eqb, ltb-true, ltb-false}
use lib.Dec.{eqb, ltb}
use Rattle.cases.proofs.Cases.{split}
use Rattle.ads1299.specs.declared.Converter.{Converter}
use Rattle.ads1299.specs.Step.{stepped}
use Rattle.ads1299.specs.Run.{after}
use Rattle.ads1299.proofs.StaysValid.{stays_valid}
use Rattle.lines.specs.Lines.{converter_count}
use Rattle.bench.specs.declared.Bench.{Bench}
use Rattle.bench.specs.Bench.{at, with_converter, valid_bench}
use Rattle.bench.specs.Line.{line_refusal, bench_stepped}
use Rattle.bench.specs.Run.{bytes_to, bench_after}
use Rattle.bench.specs.Claims.{LinesApart}
use Rattle.bench.proofs.Converters.{at_valid, at_other, each_valid, with_valid}
use Rattle.bench.proofs.Run.{stepped_with}

-- a byte with a number that no converter has
no_line : (b : Bench) (k byte : ℕ) → valid_bench b ≡ true → ltb k converter_count ≡ false → (bench_stepped b k byte).next ≡ b
unfolding bench_stepped line_refusal
no_line b k byte v e = rw (v, e)

apart : (bytes : List (ℕ × ℕ)) (b : Bench) → valid_bench b ≡ true → (k : ℕ) → k < converter_count
    → at (bench_after b bytes) k ≡ after (at b k) (bytes_to k bytes)
unfolding bench_after bytes_to after
apart [] b v k h = refl
apart (x ∷ bytes) b v k h =
    let j = x.0 in
    let c = (stepped (at b j) x.1).next in
    let ih = apart bytes (with_converter b j c) in
    let same = apart bytes b v k h in
    split (ltb j converter_count)
    (λ e.
    let below = ltb-true j converter_count e in
    let next = with_valid b v j below c ((stays_valid (at b j) (each_valid b v j below)).by_byte x.1) in
    ap (λ (u : Bench). at (bench_after u bytes) k) (stepped_with b j x.1 below v) ∙ ih next k h
    ∙ split (eqb j k)
    (λ q. let z = eqb-true j k q in
    rw q (ap (λ (u : Converter). after u (bytes_to k bytes))
    (ap (λ (i : ℕ). at (with_converter b i (stepped (at b i) x.1).next) k) z ∙ at_valid b v k h (stepped (at b k) x.1).next)))
    (λ q. rw q (ap (λ (u : Converter). after u (bytes_to k bytes)) (at_other b j c k (λ z. eqb-false j k q (sym z))))))
    (λ e.
    let g = ltb-false j converter_count e in
    ap (λ (u : Bench). at (bench_after u bytes) k) (no_line b j x.1 v e)
    ∙ rw (ne_eqb j k (λ z. omega (arith, z))) same)

pub lines_apart : LinesApart
lines_apart b v bytes k h = apart bytes b v k h
