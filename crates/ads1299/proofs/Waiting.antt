-- Zero bytes lead back to waiting, since a count of those left to go falls with each; and a select rise of an idle converter changes nothing.
use Rattle.std.specs.Prelude.{Option}
use Prim.Native.Nat.{ℕ, zero, suc, ◌+◌, ◌≤◌}
use mathlib.Core.Path.{◌≡◌, refl, sym, ◌∙◌, ap}
use mathlib.Core.Bool.{Bool, true, ◌&&◌}
use native.Mathlib.Omega.{arith}
use lib.Dec.{ltb}
use lib.ListN.{replicate}
use Rattle.cases.proofs.Cases.{split, either, and_both}
use Rattle.refusal.specs.Numbers.{none}
use Rattle.ads1299.specs.declared.Converter.{Converter}
use Rattle.ads1299.specs.Answers.{Moved}
use Rattle.ads1299_serial.specs.declared.Transfer.{Transfer}
use Rattle.ads1299_serial.specs.declared.Direction.{Direction}
use Rattle.ads1299_serial.specs.declared.Direction.TheVariants.{Read, Write}
use Rattle.ads1299_serial.specs.declared.Phase.{Phase}
use Rattle.ads1299_serial.specs.declared.Phase.TheVariants.{Waiting, Held, Counting}
use Rattle.ads1299_commands.specs.Commands.{register_command, decoded, acts}
use Rattle.ads1299.specs.Output.{emptied, ignored}
use Rattle.ads1299_serial.specs.Transfers.{countable, valid_phase, begun, remainder}
use Rattle.ads1299_serial.proofs.Transfers.{bounds}
use Rattle.ads1299.specs.Validity.{valid}
use Rattle.ads1299.specs.State.{with_output, with_phase, moved}
use Rattle.ads1299.specs.Step.{commanded, counted_in, counted, followed_in, followed}
use Rattle.ads1299.specs.Deselect.{deselected}
use Rattle.ads1299.specs.Run.{after}
use Rattle.ads1299.specs.Claims.{ReachesWaiting, IdleDeselect}
use Rattle.ads1299.proofs.ValidState.{parts, whole}
use Rattle.ads1299.proofs.StaysValid.{next_is, followed_valid}

-- how many zero bytes are left to go
abbrev left : Phase → ℕ
left Waiting = 0
left (Held t) = 2
left (Counting t) = t.remaining

remainder_left : (t : Transfer) (n : ℕ) → t.remaining ≤ suc n → left (remainder t) ≤ n
unfolding remainder
remainder_left t n h = either (λ (p : Phase). left p ≤ n) (ltb 1 t.remaining && countable t) (λ u. omega arith) (λ u. omega arith)

counted_left : (d : Direction) (s : Converter) (t : Transfer) (n : ℕ) → t.remaining ≤ suc n → left (counted_in d s t 0).phase ≤ n
counted_left Read s t n h = remainder_left t n h
counted_left Write s t n h = remainder_left t n h

-- a zero byte is no command
zero_ignored : (s : Converter) → commanded s (decoded 0) ≡ ignored s
unfolding commanded acts decoded register_command
zero_ignored s = split s.standby (λ e. rw e) (λ e. rw e)

falls : (p : Phase) (s : Converter) (n : ℕ) → s.phase ≡ p → left p ≤ suc n → left (followed_in p s 0).phase ≤ n
unfolding ignored begun counted
falls Waiting s n e h = rw (zero_ignored s) (rw e (omega arith))
falls (Held t) s n e h = omega arith
falls (Counting t) s n e h = counted_left t.direction s t n h

over : (p : Phase) (may : Bool) → valid_phase p may ≡ true → left p ≤ 0 → p ≡ Waiting
over Waiting may f h = refl
over (Held t) may f h = absurd (omega arith)
over (Counting t) may f h = let b = bounds t (and_both may (countable t) f).1 in absurd (omega arith)

run : (n : ℕ) (s : Converter) → valid s ≡ true → left s.phase ≤ n → (after s (replicate n 0)).phase ≡ Waiting
unfolding after followed
run zero s v h = over s.phase _ (parts s v).phase h
run (suc n) s v h =
    ap (λ (x : Converter). (after x (replicate n 0)).phase) (next_is s 0 v)
    ∙ run n (followed s 0) (whole _ (followed_valid s (parts s v) 0)) (falls s.phase s n refl h)

few : (p : Phase) (may : Bool) → valid_phase p may ≡ true → left p ≤ 32
few Waiting may f = omega arith
few (Held t) may f = omega arith
few (Counting t) may f = (bounds t (and_both may (countable t) f).1).few

pub reaches_waiting : ReachesWaiting
reaches_waiting s v =
    record {
      count = left s.phase;
      few = few s.phase _ (parts s v).phase;
      waits = λ more. run (left s.phase + more) s v (omega arith);
    }

pub idle_deselect : IdleDeselect
unfolding deselected emptied
idle_deselect s v w e =
    let with : Option ℕ → Phase → Moved = λ o p. moved none (with_phase (with_output s o) p) in
    rw v (ap (λ (o : Option ℕ). with o Waiting) (sym e) ∙ ap (with s.output) (sym w))
