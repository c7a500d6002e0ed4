-- Benches that pass 13 lead to such benches; zero bytes lead back to waiting; the rise of an idle converter's line changes nothing.
use Prim.Native.Nat.{ℕ, ◌+◌, ◌-◌, ◌<◌}
use mathlib.Core.Path.{◌≡◌, ap}
use mathlib.Core.Bool.{true}
use mathlib.Core.List.{List}
use native.Mathlib.Omega.{arith}
use borrow.Author.Tests.{eqb-true, lt-ltb}
use lib.ListN.{get_or, replicate}
use Rattle.cases.proofs.Cases.{split}
use Rattle.refusal.specs.Numbers.{none}
use Rattle.refusal.specs.First.{accepted}
use Rattle.ads1299_serial.specs.declared.Phase.TheVariants.{Waiting}
use Rattle.ads1299_serial.specs.Transfers.{most_registers}
use Rattle.ads1299.specs.declared.Converter.{Converter}
use Rattle.ads1299.specs.Validity.{valid}
use Rattle.ads1299.specs.PowerUp.{valid_id, powered_up}
use Rattle.ads1299.specs.Run.{after}
use Rattle.ads1299.specs.Claims as converter_claims
use Rattle.ads1299.proofs.StaysValid as converter
use Rattle.ads1299.proofs.Waiting as converter_waiting
use Rattle.lines.specs.Lines.{converter_count}
use Rattle.bench.specs.declared.Bench.{Bench}
use Rattle.bench.specs.Bench.{at, with_converter, valid_bench}
use Rattle.bench.specs.PowerUp.{valid_ids, started, bench_powered_up}
use Rattle.bench.specs.Line.{line_refusal, bench_moved, bench_stepped, bench_deselected, bench_sampled}
use Rattle.bench.specs.Claims.{PowersUpValid, NextValid, StaysValid, ReachesWaiting, IdleDeselect}
use Rattle.bench.proofs.Line.{clear}
use Rattle.bench.proofs.Converters.{with_same, every_passes, at_valid, at_other, each_valid, with_valid}
use Rattle.bench.proofs.Run.{run_one}

-- power-up
id_accepted : (id : ℕ) → valid_id id ≡ true → (powered_up id).refusal ≡ none
unfolding powered_up
id_accepted id e = rw e

started_valid : (ids : List ℕ) → valid_ids ids ≡ true → valid_bench (started ids) ≡ true
unfolding valid_ids started valid_bench
started_valid ids e =
    let v : (k : ℕ) → k < converter_count → valid (powered_up (get_or ids k 0)).converter ≡ true =
    λ k h. converter.powers_up_valid (get_or ids k 0) (id_accepted (get_or ids k 0) (every_passes (λ k. valid_id (get_or ids k 0)) e k h)) in
    rw (v 0 (omega arith), v 1 (omega arith), v 2 (omega arith), v 3 (omega arith))

pub powers_up_valid : PowersUpValid
unfolding bench_powered_up
powers_up_valid ids =
    split (valid_ids ids) (λ e. rw e (λ z. started_valid ids e)) (λ e. rw e (λ z. absurd (omega (arith, z))))

-- a byte, a rise and a sample
module _ (b : Bench) (v : valid_bench b ≡ true) where
  with_next : (k : ℕ) → accepted (line_refusal b k) ≡ true → (c : Converter) → valid c ≡ true → valid_bench (with_converter b k c) ≡ true
  with_next k e c w = with_valid b v k (clear b k (eqb-true _ _ e)).number c w

  each : (k : ℕ) → accepted (line_refusal b k) ≡ true → converter_claims.NextValid (at b k)
  each k e = converter.stays_valid (at b k) (each_valid b v k (clear b k (eqb-true _ _ e)).number)

  next_valid : NextValid b
  unfolding bench_stepped bench_deselected bench_sampled
  next_valid =
      record {
        by_byte = λ k byte. split (accepted (line_refusal b k)) (λ e. rw e (with_next k e _ ((each k e).by_byte byte))) (λ e. rw e v);
        by_deselect = λ k. split (accepted (line_refusal b k)) (λ e. rw e (with_next k e _ (each k e).by_deselect)) (λ e. rw e v);
        by_sample = λ k codes p n. split (accepted (line_refusal b k)) (λ e. rw e (with_next k e _ ((each k e).by_sample codes p n))) (λ e. rw e v);
      }

pub stays_valid : StaysValid
stays_valid = next_valid

-- zero bytes
zeros : (s : Converter) → valid s ≡ true → (more : ℕ) → (after s (replicate (most_registers + more) 0)).phase ≡ Waiting
zeros s v more =
    let w = converter_waiting.reaches_waiting s v in
    let n : w.count + (most_registers - w.count + more) ≡ most_registers + more = omega (arith, w.few) in
    rw (← n) (w.waits (most_registers - w.count + more))

pub reaches_waiting : ReachesWaiting
reaches_waiting b v k h =
    record {
      waits = λ more. rw (run_one k h (replicate (most_registers + more) 0) b v, at_valid b v k h (after (at b k) (replicate (most_registers + more) 0)))
          (zeros (at b k) (each_valid b v k h) more);
      others = λ count j ne. rw (run_one k h (replicate count 0) b v) (at_other b k (after (at b k) (replicate count 0)) j ne);
    }

pub idle_deselect : IdleDeselect
unfolding bench_deselected line_refusal
idle_deselect b v k h waits empty =
    rw (v, lt-ltb k converter_count h, converter_waiting.idle_deselect (at b k) (each_valid b v k h) waits empty) (ap (bench_moved none) (with_same b k))
