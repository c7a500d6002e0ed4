-- Bytes for one converter of a bench that passes 13: they go to it, one by one, and to no other.
use Prim.Native.Nat.{ℕ, ◌<◌}
use mathlib.Core.Path.{◌≡◌, refl, sym, ◌∙◌, ap}
use mathlib.Core.Bool.{true}
use mathlib.Core.List.{List, [], ◌∷◌, ◌++◌}
use borrow.Author.Tests.{lt-ltb}
use Rattle.ads1299.specs.declared.Converter.{Converter}
use Rattle.ads1299.specs.Step.{stepped}
use Rattle.ads1299.specs.Run.{after, run_refusals}
use Rattle.ads1299.proofs.StaysValid.{stays_valid}
use Rattle.lines.specs.Lines.{converter_count}
use Rattle.bench.specs.declared.Bench.{Bench}
use Rattle.bench.specs.Bench.{at, with_converter, valid_bench}
use Rattle.bench.specs.Line.{line_refusal, bench_stepped}
use Rattle.bench.specs.Run.{bytes_for, bench_after, bench_run_refusals}
use Rattle.bench.proofs.Converters.{with_again, with_same, at_valid, each_valid, with_valid}

pub after_append : (xs : List (ℕ × ℕ)) (b : Bench) (ys : List (ℕ × ℕ)) → bench_after b (xs ++ ys) ≡ bench_after (bench_after b xs) ys
unfolding bench_after
after_append [] b ys = refl
after_append (y ∷ xs) b ys = after_append xs (bench_stepped b y.0 y.1).next ys

pub stepped_with : (b : Bench) (k byte : ℕ) → k < converter_count → valid_bench b ≡ true
    → (bench_stepped b k byte).next ≡ with_converter b k (stepped (at b k) byte).next
unfolding bench_stepped line_refusal
stepped_with b k byte h e = rw (e, lt-ltb k converter_count h)

stepped_refusal : (b : Bench) (k byte : ℕ) → k < converter_count → valid_bench b ≡ true → (bench_stepped b k byte).refusal ≡ (stepped (at b k) byte).refusal
unfolding bench_stepped line_refusal stepped
stepped_refusal b k byte h e = rw (e, lt-ltb k converter_count h, each_valid b e k h)

module _ (k : ℕ) (h : k < converter_count) where
  -- the bench that a byte leaves passes 13 again
  next_valid : (b : Bench) (byte : ℕ) → valid_bench b ≡ true → valid_bench (with_converter b k (stepped (at b k) byte).next) ≡ true
  next_valid b byte e = with_valid b e k h (stepped (at b k) byte).next ((stays_valid (at b k) (each_valid b e k h)).by_byte byte)

  pub run_one : (bytes : List ℕ) (b : Bench) → valid_bench b ≡ true → bench_after b (bytes_for k bytes) ≡ with_converter b k (after (at b k) bytes)
  unfolding bench_after after
  run_one [] b e = sym (with_same b k)
  run_one (byte ∷ bytes) b e =
      let c = (stepped (at b k) byte).next in
      ap (λ (u : Bench). bench_after u (bytes_for k bytes)) (stepped_with b k byte h e)
      ∙ run_one bytes (with_converter b k c) (next_valid b byte e)
      ∙ with_again b k c (after (at (with_converter b k c) k) bytes)
      ∙ ap (λ (u : Converter). with_converter b k (after u bytes)) (at_valid b e k h c)

  pub run_refusals_lem : (bytes : List ℕ) (b : Bench) → valid_bench b ≡ true → bench_run_refusals b (bytes_for k bytes) ≡ run_refusals (at b k) bytes
  unfolding bench_run_refusals run_refusals
  run_refusals_lem [] b e = refl
  run_refusals_lem (byte ∷ bytes) b e =
      let c = (stepped (at b k) byte).next in
      let rest = ap (λ (u : Bench). bench_run_refusals u (bytes_for k bytes)) (stepped_with b k byte h e)
      ∙ run_refusals_lem bytes (with_converter b k c) (next_valid b byte e)
      ∙ ap (λ (u : Converter). run_refusals u bytes) (at_valid b e k h c) in
      (λ i. stepped_refusal b k byte h e i ∷ rest i)
