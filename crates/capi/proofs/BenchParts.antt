-- A channel's part on the bench is that of its converter, accepted and refused.
use Prim.Native.Nat.{ℕ, ◌*◌}
use mathlib.Core.Path.{◌≡◌, sym, ◌∙◌, ap}
use mathlib.Core.Bool.{true, false}
use mathlib.Core.List.{List}
use native.Mathlib.Omega.{arith}
use lib.ListN.{length}
use Rattle.cases.proofs.Cases.{split}
use Rattle.std.specs.Prelude.{Result, Ok, Err}
use Rattle.refusal.specs.Numbers.{none}
use Rattle.refusal.specs.First.{accepted}
use Rattle.refusal.specs.declared.Refusal.{Refusal}
use Rattle.refusal.proofs.Laws.{refused_lem}
use Rattle.readings.specs.declared.Readout.{Readout}
use Rattle.readings.specs.Answers.{Reading, reading_answer}
use Rattle.readings.specs.Reading.{part_bytes}
use Rattle.lines.specs.Lines.{converter_of, channel_on}
use Rattle.bench.specs.declared.Bench.{Bench}
use Rattle.bench.specs.Bench.{at, valid_bench}
use Rattle.bench_readings.specs.Reading.{bench_reading, bench_part_bytes, bench_part_place}
use Rattle.bench_readings.proofs.Worded.{reading_is}
use Rattle.capi.specs.Answers.{channel_part, no_part}
use Rattle.capi.specs.BenchAnswers.{bench_part}
use Rattle.capi.specs.Results.{located}
use Rattle.capi.proofs.Parts.{part_taken, part_refused}

module _ (b : Bench) (k party n : ℕ) (frame : List ℕ) where
  bytes_are : valid_bench b ≡ true → bench_part_bytes b k party n frame ≡ part_bytes (at b (converter_of n)) party (channel_on k n) frame
  unfolding bench_part_bytes
  bytes_are v = rw v

  part_is : valid_bench b ≡ true → bench_part b k party n frame ≡ channel_part (at b (converter_of n)) party (channel_on k n) frame
  unfolding bench_part bench_reading bench_part_place bench_part_bytes channel_part
  part_is v = rw v

  taken_valid : (bench_reading b k party n frame).refusal ≡ none → valid_bench b ≡ true
  unfolding bench_reading
  taken_valid e = split (valid_bench b) (λ v. v) (λ v. absurd (omega (arith, rw v at e)))

  pub bench_part_taken : (bench_reading b k party n frame).refusal ≡ none
      → bench_part b k party n frame ≡ record { refusal = none; start = 3 * channel_on k n; length = length (bench_part_bytes b k party n frame) }
  bench_part_taken e =
      let v = taken_valid e in
      part_is v ∙ part_taken (at b (converter_of n)) party (channel_on k n) frame (rw (reading_is b v k party n frame) at e)
      ∙ (λ i. record { refusal = none; start = 3 * channel_on k n; length = length (sym (bytes_are v) i) })

  pub bench_part_refused : accepted (bench_reading b k party n frame).refusal ≡ false
      → bench_part b k party n frame ≡ no_part (bench_reading b k party n frame).refusal
  unfolding bench_part bench_reading bench_part_place bench_part_bytes
  bench_part_refused e =
      split (valid_bench b)
      (λ v.
      part_is v ∙ part_refused (at b (converter_of n)) party (channel_on k n) frame (rw v at e)
      ∙ ap (λ (r : Reading). no_part r.refusal) (sym (reading_is b v k party n frame)))
      (λ v. rw v)

  pub bench_part_located : (r : Result Readout Refusal) → reading_answer r ≡ bench_reading b k party n frame
      → located r (channel_on k n) (bench_part_bytes b k party n frame) ≡ bench_part b k party n frame
  bench_part_located (Ok o) e = sym (bench_part_taken (ap (λ (a : Reading). a.refusal) (sym e)))
  bench_part_located (Err x) e =
      let number = ap (λ (a : Reading). a.refusal) (sym e) in
      sym (bench_part_refused (rw number (refused_lem x)) ∙ ap no_part number)
