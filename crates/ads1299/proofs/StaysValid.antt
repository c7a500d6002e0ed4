-- A state that an accepted power-up gives passes 13, and a state that passes it goes on to pass it.
use Prim.Native.Nat.{ℕ, zero, suc, ◌+◌, ◌%◌}
use mathlib.Core.Path.{◌≡◌, refl}
use mathlib.Core.Bool.{Bool, true, false, cond, not, false≢true}
use mathlib.Core.List.{List, [], ◌∷◌}
use native.Mathlib.Omega.{arith}
use borrow.Author.Tests.{eqb-true, eq-eqb, not-true}
use lib.Dec.{ltb, eqb}
use lib.IntN.{ℤ}
use lib.ListN.{get_or, set}
use lib.Seq.{get_or-set_other}
use lib.Bits.{bit_and, and_zero_r, and_mask}
use Rattle.bits.specs.Fields.{masked}
use Rattle.cases.proofs.Cases.{split, either}
use Rattle.refusal.specs.First.{accepted}
use Rattle.ads1299_registers.specs.Addresses.{ID, LOFF_STATP, LOFF_STATN}
use Rattle.ads1299.specs.declared.Converter.{Converter}
use Rattle.ads1299_serial.specs.declared.Transfer.{Transfer}
use Rattle.ads1299_serial.specs.declared.Direction.{Direction}
use Rattle.ads1299_serial.specs.declared.Direction.TheVariants.{Read, Write}
use Rattle.ads1299_serial.specs.declared.Phase.{Phase}
use Rattle.ads1299_serial.specs.declared.Phase.TheVariants.{Waiting, Held, Counting}
use Rattle.ads1299_commands.specs.declared.Command.{Command}
use Rattle.ads1299_commands.specs.declared.Command.TheVariants.{Wakeup, Standby, Reset, Start, Stop, Rdatac, Sdatac, Rdata, Rreg, Wreg, Unlisted}
use Rattle.ads1299.specs.PowerUp.{valid_id, restored, powered_up}
use Rattle.ads1299_registers.specs.Table.{power_up, masks}
use Rattle.ads1299.specs.Registers.{written}
use Rattle.ads1299.specs.Answers.{Moved}
use Rattle.ads1299.specs.State.{with_phase}
use Rattle.ads1299_commands.specs.Commands.{decoded, acts}
use Rattle.ads1299_serial.specs.Output.{valid_place}
use Rattle.ads1299_commands.proofs.Commands.{low_address, decoded_low}
use Rattle.ads1299_serial.proofs.Transfers.{begun_valid, remainder_valid}
use Rattle.ads1299_serial.proofs.OutputPlace.{advanced_valid}
use Rattle.ads1299.specs.Output.{read_back, emptied, loaded, ignored}
use Rattle.ads1299.specs.Validity.{interruptible, valid}
use Rattle.ads1299.specs.Step.{effect, commanded, counted_in, counted, followed_in, followed, stepped}
use Rattle.ads1299.specs.Deselect.{deselected}
use Rattle.ads1299.specs.Sample.{sample_refusal, with_status, framed, taken, sampled}
use Rattle.ads1299.specs.Claims.{PowersUpValid, StaysValid}
use Rattle.ads1299.proofs.ValidState.{Parts, parts, whole}

pub powers_up_valid : PowersUpValid
unfolding powered_up restored power_up
powers_up_valid id e =
    split (valid_id id)
    (λ v. rw v (whole _ (record { id = v; place = refl; phase = refl; owners = refl })))
    (λ v. absurd (omega (arith, rw v at e)))

-- a register command acts awake, in command mode
opens : (standby continuous : Bool) → cond standby false (not continuous) ≡ true → (standby ≡ false) × (continuous ≡ false)
opens true continuous e = absurd (false≢true e)
opens false continuous e = (refl, not-true continuous e)

module _ (s : Converter) (p : Parts s) where
  -- what changes nothing that 13 asks of a waiting converter
  idle : (t : Converter) → t.registers ≡ s.registers → t.owners ≡ s.owners → valid_place t.output ≡ true → t.phase ≡ Waiting → Parts t
  idle t r o place w = record { id = rw r p.id; place = place; phase = rw w; owners = rw o p.owners }

  -- what a command that acts leaves, once the output is empty
  effect_valid : (c : Command) → s.phase ≡ Waiting → low_address c ≡ true → acts c s.standby s.continuous s.converting ≡ true → Parts (effect c (emptied s))
  unfolding effect emptied loaded restored power_up acts
  effect_valid Wakeup w l a = idle _ refl refl refl w
  effect_valid Standby w l a = idle _ refl refl refl w
  effect_valid Reset w l a = record { id = p.id; place = refl; phase = refl; owners = p.owners }
  effect_valid Start w l a = idle _ refl refl refl w
  effect_valid Stop w l a = idle _ refl refl refl w
  effect_valid Rdatac w l a = idle _ refl refl refl w
  effect_valid Sdatac w l a = idle _ refl refl refl w
  effect_valid Rdata w l a = idle _ refl refl refl w
  effect_valid (Rreg r) w l a = let o = opens s.standby s.continuous a in record { id = p.id; place = refl; phase = rw (o.0, o.1, l); owners = p.owners }
  effect_valid (Wreg r) w l a = let o = opens s.standby s.continuous a in record { id = p.id; place = refl; phase = rw (o.0, o.1, l); owners = p.owners }
  effect_valid Unlisted w l a = idle _ refl refl refl w

  commanded_valid : (b : ℕ) → s.phase ≡ Waiting → Parts (commanded s (decoded b))
  unfolding commanded ignored
  commanded_valid b w =
      either Parts (acts (decoded b) s.standby s.continuous s.converting) (effect_valid (decoded b) w (decoded_low b))
      (λ e. idle _ refl refl (advanced_valid s.output (read_back s.registers) p.place) w)

-- the ID's mask has no bit
id_kept : (registers : List ℕ) (a b : ℕ) → valid_id (get_or registers ID 0) ≡ true → valid_id (get_or (written registers a b) ID 0) ≡ true
unfolding valid_id written masked masks
id_kept [] a b e = absurd (false≢true e)
id_kept (x ∷ xs) zero b e = eq-eqb ((bit_and x 255 + bit_and b 0) % 32) 30 (omega (arith, eqb-true (x % 32) 30 e, and_mask x 8, and_zero_r b))
id_kept (x ∷ xs) (suc a) b e = either (λ (r : List ℕ). eqb (get_or r 0 0 % 32) 30 ≡ true) (ltb (suc a) 24) (λ t. e) (λ t. e)

module _ (s : Converter) (p : Parts s) where
  counted_valid : (d : Direction) (t : Transfer) (b : ℕ) → s.phase ≡ Counting t → Parts (counted_in d s t b)
  counted_valid Read t b e = record { id = p.id; place = p.place; phase = remainder_valid t (interruptible s.continuous s.standby s.output) (rw e at p.phase); owners = p.owners }
  counted_valid Write t b e =
      record { id = id_kept s.registers t.address b p.id; place = p.place; phase = remainder_valid t (interruptible s.continuous s.standby s.output) (rw e at p.phase); owners = p.owners }

  followed_in_lem : (phase : Phase) (b : ℕ) → s.phase ≡ phase → Parts (followed_in phase s b)
  unfolding counted
  followed_in_lem Waiting b e = commanded_valid s p b e
  followed_in_lem (Held t) b e =
      record { id = p.id; place = p.place; phase = begun_valid t b (interruptible s.continuous s.standby s.output) (rw e at p.phase); owners = p.owners }
  followed_in_lem (Counting t) b e = counted_valid t.direction t b e

  pub followed_valid : (b : ℕ) → Parts (followed s b)
  unfolding followed
  followed_valid b = followed_in_lem s.phase b refl

  deselected_valid : Parts (with_phase (emptied s) Waiting)
  unfolding emptied
  deselected_valid = idle s p _ refl refl refl refl

-- P and N do not reach the ID
id_status : (registers : List ℕ) (p n : ℕ) → get_or (with_status registers p n) ID 0 ≡ get_or registers ID 0
unfolding with_status
id_status registers p n = rw (get_or-set_other (set registers LOFF_STATP p) LOFF_STATN ID n 0 (λ e. omega arith), get_or-set_other registers LOFF_STATP ID p 0 (λ e. omega arith))

-- output comes with a sample in continuous mode alone, where no command stands half given
module _ (s : Converter) (v : Parts s) where
  pub taken_valid : (codes : List ℤ) (p n : ℕ) → Parts (taken s codes p n)
  unfolding taken framed loaded
  taken_valid codes p n =
      let id : valid_id (get_or (with_status s.registers p n) ID 0) ≡ true = rw (id_status s.registers p n) v.id in
      either Parts s.continuous
      (λ c. record { id = id; place = refl; phase = rw c (rw c at v.phase); owners = v.owners })
      (λ c. record { id = id; place = v.place; phase = v.phase; owners = v.owners })

-- a byte that is not refused is followed
pub next_is : (s : Converter) (b : ℕ) → valid s ≡ true → (stepped s b).next ≡ followed s b
unfolding stepped
next_is s b v = rw v

pub stays_valid : StaysValid
unfolding deselected sampled
stays_valid s v =
    let p = parts s v in
    record {
      by_byte = λ b. rw (next_is s b v) (whole _ (followed_valid s p b));
      by_deselect = rw v (whole _ (deselected_valid s p));
      by_sample = λ codes m n. either (λ (r : Moved). valid r.next ≡ true) (accepted (sample_refusal s codes)) (λ e. whole _ (taken_valid s p codes m n)) (λ e. v);
    }
