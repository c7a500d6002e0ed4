-- Bytes through the byte step, and those of a plan that leave the modes and go back to them.
use Rattle.std.specs.Prelude.{Option, None}
use Prim.Native.Nat.{ℕ, ◌+◌, ◌-◌, ◌%◌, ◌<◌}
use mathlib.Core.Path.{◌≡◌, refl, ◌∙◌, ap}
use mathlib.Core.Bool.{Bool, true, false, cond, ◌||◌}
use mathlib.Core.List.{List, [], ◌∷◌, ◌++◌}
use native.Mathlib.Omega.{arith}
use borrow.Author.Tests.{ne_eqb}
use lib.ListN.{length, get_or, replicate}
use Rattle.refusal.specs.Numbers.{none}
use Rattle.ads1299_registers.specs.Addresses.{ID, register_count}
use Rattle.ads1299_serial.specs.declared.Phase.{Phase}
use Rattle.ads1299_serial.specs.declared.Phase.TheVariants.{Waiting}
use Rattle.ads1299_commands.specs.declared.Command.TheVariants.{Wreg}
use Rattle.ads1299_commands.specs.Opcodes.{WAKEUP, STANDBY, RDATAC, SDATAC, WREG}
use Rattle.ads1299_commands.specs.Commands.{register_command, decoded, acts}
use Rattle.ads1299_serial.specs.Output.{valid_place}
use Rattle.ads1299.specs.declared.Converter.{Converter}
use Rattle.parties.specs.Owners.{known_owners}
use Rattle.ads1299.specs.PowerUp.{valid_id}
use Rattle.ads1299.specs.Output.{emptied}
use Rattle.ads1299.specs.State.{state}
use Rattle.ads1299.specs.Validity.{valid}
use Rattle.ads1299.specs.Step.{effect, commanded, followed, stepped}
use Rattle.ads1299.specs.Run.{after, run_refusals}
use Rattle.ads1299.proofs.ValidState.{whole}
use Rattle.ads1299.proofs.StaysValid.{next_is, stays_valid}
use Rattle.planner.specs.Plan.{entering, leaving}

-- runs of bytes
pub after_append : (xs : List ℕ) (s : Converter) (ys : List ℕ) → after s (xs ++ ys) ≡ after (after s xs) ys
unfolding after
after_append [] s ys = refl
after_append (b ∷ xs) s ys = after_append xs (stepped s b).next ys

pub after_valid : (bytes : List ℕ) (s : Converter) → valid s ≡ true → valid (after s bytes) ≡ true
unfolding after
after_valid [] s v = v
after_valid (b ∷ bytes) s v = after_valid bytes (stepped s b).next ((stays_valid s v).by_byte b)

none_refused : (s : Converter) (b : ℕ) → valid s ≡ true → (stepped s b).refusal ≡ none
unfolding stepped
none_refused s b v = rw v

pub no_refusals : (bytes : List ℕ) (s : Converter) → valid s ≡ true → run_refusals s bytes ≡ replicate (length bytes) none
unfolding run_refusals
no_refusals [] s v = refl
no_refusals (b ∷ bytes) s v = rw (none_refused s b v, no_refusals bytes (stepped s b).next ((stays_valid s v).by_byte b))

-- a write command with its address
pub decoded_write : (a : ℕ) → a < register_count → decoded (WREG + a) ≡ Wreg a
unfolding decoded register_command
decoded_write a h =
    let r : (0x40 + a) % 32 ≡ a = omega arith in
    let q : 0x40 + a - a ≡ 0x40 = omega arith in
    simp (
      ne_eqb (0x40 + a) 0x02 (λ z. omega arith),
      ne_eqb (0x40 + a) 0x04 (λ z. omega arith),
      ne_eqb (0x40 + a) 0x06 (λ z. omega arith),
      ne_eqb (0x40 + a) 0x08 (λ z. omega arith),
      ne_eqb (0x40 + a) 0x0A (λ z. omega arith),
      ne_eqb (0x40 + a) 0x10 (λ z. omega arith),
      ne_eqb (0x40 + a) 0x11 (λ z. omega arith),
      ne_eqb (0x40 + a) 0x12 (λ z. omega arith),
      r,
      q,
    )

-- each byte of a plan, from a state that waits
module _ (r w t : List ℕ) (v : Bool) (f : List ℕ) (id : valid_id (get_or r ID 0) ≡ true) (known : known_owners w ≡ true) where
  abbrev at : Option ℕ → Bool → Bool → Phase → Converter
  at o c b p = state r w t o c b v f p

  pub waits_valid : (o : Option ℕ) (c b : Bool) → valid_place o ≡ true → valid (at o c b Waiting) ≡ true
  waits_valid o c b e = whole (at o c b Waiting) (record { id = id; place = e; phase = refl; owners = known })

  by_wakeup : (o : Option ℕ) (c : Bool) → valid_place o ≡ true → (stepped (at o c true Waiting) WAKEUP).next ≡ at None c false Waiting
  unfolding followed commanded decoded acts effect emptied
  by_wakeup o c e = next_is (at o c true Waiting) WAKEUP (waits_valid o c true e)

  by_sdatac : (o : Option ℕ) → valid_place o ≡ true → (stepped (at o true false Waiting) SDATAC).next ≡ at None false false Waiting
  unfolding followed commanded decoded acts effect emptied
  by_sdatac o e = next_is (at o true false Waiting) SDATAC (waits_valid o true false e)

  by_rdatac : (stepped (at None false false Waiting) RDATAC).next ≡ at None true false Waiting
  unfolding followed commanded decoded acts effect emptied
  by_rdatac = next_is (at None false false Waiting) RDATAC (waits_valid None false false refl)

  by_standby : (c : Bool) → (stepped (at None c false Waiting) STANDBY).next ≡ at None c true Waiting
  unfolding followed commanded decoded acts effect emptied
  by_standby c = next_is (at None c false Waiting) STANDBY (waits_valid None c false refl)

  pub enters : (o : Option ℕ) (c b : Bool) → valid_place o ≡ true → after (at o c b Waiting) (entering b c) ≡ at (cond (b || c) None o) false false Waiting
  unfolding after
  enters o true true e = ap (λ (x : Converter). after x (SDATAC ∷ [])) (by_wakeup o true e) ∙ by_sdatac None refl
  enters o false true e = by_wakeup o false e
  enters o true false e = by_sdatac o e
  enters o false false e = refl

  pub leaves : (c b : Bool) → after (at None false false Waiting) (leaving b c) ≡ at None c b Waiting
  unfolding after
  leaves true true = ap (λ (x : Converter). after x (STANDBY ∷ [])) by_rdatac ∙ by_standby true
  leaves false true = by_standby false
  leaves true false = by_rdatac
  leaves false false = refl
