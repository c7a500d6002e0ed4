-- The flat form and back, from either side.
use Rattle.std.specs.Prelude.{Option, None, Some}
use Prim.Native.Nat.{ℕ, zero, suc}
use mathlib.Core.Path.{◌≡◌, refl, sym}
use mathlib.Core.Bool.{Bool, true, false, ◌&&◌}
use lib.Dec.{eqb, leb}
use borrow.Author.Tests.{eqb-true, leb-true, ne_eqb}
use native.Mathlib.Omega.{arith}
use Rattle.cases.proofs.Cases.{and_both}
use Rattle.ads1299_serial.specs.declared.Direction.{Direction}
use Rattle.ads1299_serial.specs.declared.Direction.TheVariants.{Read, Write}
use Rattle.ads1299_serial.specs.declared.Phase.{Phase}
use Rattle.ads1299_serial.specs.declared.Phase.TheVariants.{Waiting, Held, Counting}
use Rattle.ads1299_serial.specs.Transfers.{transfer}
use Rattle.ads1299.specs.declared.Converter.{Converter}
use Rattle.ads1299.specs.State.{state}
use Rattle.flat.specs.declared.FlatConverter.{FlatConverter}
use Rattle.flat.specs.Codes.{on}
use Rattle.flat.specs.Flat.{flag_code, direction_code, output_code, place_of, phase_code, transfer_of, flat}
use Rattle.flat.specs.States.{is_flag, are_flags, is_output, is_phase, is_state, direction_of, output_of, phase_of, state_of, state_in}
use Rattle.flat.specs.Claims.{RoundTrip, ComesBack}

pub flag_stands : (b : Bool) → is_flag (flag_code b) ≡ true
flag_stands true = refl
flag_stands false = refl

output_stands : (o : Option ℕ) → is_output (output_code o) (place_of o) ≡ true
unfolding is_output
output_stands None = refl
output_stands (Some place) = refl

direction_stands : (d : Direction) → leb (direction_code d) 1 ≡ true
direction_stands Read = refl
direction_stands Write = refl

phase_stands : (p : Phase) → is_phase (phase_code p) (direction_code (transfer_of p).direction) (transfer_of p).address (transfer_of p).remaining ≡ true
unfolding is_phase
phase_stands Waiting = refl
phase_stands (Held t) = direction_stands t.direction
phase_stands (Counting t) = direction_stands t.direction

stands : (s : Converter) → is_state (flat s) ≡ true
unfolding is_state flat
stands s = simp (flag_stands s.continuous, flag_stands s.standby, flag_stands s.converting, output_stands s.output, phase_stands s.phase)

pub flag_returns : (b : Bool) → eqb (flag_code b) on ≡ b
flag_returns true = refl
flag_returns false = refl

output_returns : (o : Option ℕ) → output_of (output_code o) (place_of o) ≡ o
output_returns None = refl
output_returns (Some place) = refl

direction_returns : (d : Direction) → direction_of (direction_code d) ≡ d
direction_returns Read = refl
direction_returns Write = refl

phase_returns : (p : Phase) → phase_of (phase_code p) (transfer (direction_of (direction_code (transfer_of p).direction)) (transfer_of p).address (transfer_of p).remaining) ≡ p
phase_returns Waiting = refl
phase_returns (Held t) = λ i. Held (transfer (direction_returns t.direction i) t.address t.remaining)
phase_returns (Counting t) = λ i. Counting (transfer (direction_returns t.direction i) t.address t.remaining)

returns : (s : Converter) → state_of (flat s) ≡ s
unfolding state_of flat
returns s = λ i. state s.registers s.owners s.latest (output_returns s.output i) (flag_returns s.continuous i) (flag_returns s.standby i) (flag_returns s.converting i) s.shifting (phase_returns s.phase i)

not_zero : (n : ℕ) → eqb (suc n) 0 ≡ false
not_zero n = ne_eqb (suc n) 0 (λ z. omega (arith, z))

pub flag_flat : (code : ℕ) → is_flag code ≡ true → flag_code (eqb code on) ≡ code
flag_flat zero e = refl
flag_flat (suc zero) e = refl
flag_flat (suc (suc n)) e = absurd (omega (arith, leb-true (suc (suc n)) 1 e))

direction_flat : (code : ℕ) → leb code 1 ≡ true → direction_code (direction_of code) ≡ code
direction_flat zero e = refl
direction_flat (suc zero) e = refl
direction_flat (suc (suc n)) e = absurd (omega (arith, leb-true (suc (suc n)) 1 e))

-- An output's code and place are those of the output that they give.
record SameOutput (code place : ℕ) (o : Option ℕ) : Type 0 where
  code_same : output_code o ≡ code
  place_same : place_of o ≡ place

output_flat : (code place : ℕ) → is_output code place ≡ true → SameOutput code place (output_of code place)
unfolding is_output
output_flat zero place e = record { code_same = refl; place_same = sym (eqb-true _ _ e) }
output_flat (suc zero) place e = record { code_same = refl; place_same = refl }
output_flat (suc (suc n)) place e = absurd (omega (arith, eqb-true (suc (suc n)) 1 (rw (not_zero (suc n)) at e)))

-- A phase's numbers are those of the phase that they give.
record SamePhase (code direction address remaining : ℕ) (p : Phase) : Type 0 where
  code_same : phase_code p ≡ code
  direction_same : direction_code (transfer_of p).direction ≡ direction
  address_same : (transfer_of p).address ≡ address
  remaining_same : (transfer_of p).remaining ≡ remaining

phase_flat : (code direction address remaining : ℕ) → is_phase code direction address remaining ≡ true
    → SamePhase code direction address remaining (phase_of code (transfer (direction_of direction) address remaining))
unfolding is_phase
phase_flat zero direction address remaining e =
    let b = and_both (eqb direction 0 && eqb address 0) (eqb remaining 0) e in
    let a = and_both (eqb direction 0) (eqb address 0) b.0 in
    record { code_same = refl; direction_same = sym (eqb-true _ _ a.0); address_same = sym (eqb-true _ _ a.1); remaining_same = sym (eqb-true _ _ b.1) }
phase_flat (suc zero) direction address remaining e =
    record { code_same = refl; direction_same = direction_flat direction e; address_same = refl; remaining_same = refl }
phase_flat (suc (suc zero)) direction address remaining e =
    record { code_same = refl; direction_same = direction_flat direction e; address_same = refl; remaining_same = refl }
phase_flat (suc (suc (suc n))) direction address remaining e =
    absurd (omega (arith, leb-true (suc (suc (suc n))) 2 (and_both _ _ (rw (not_zero (suc (suc n))) at e)).0))

returns_flat_lem : (f : FlatConverter) → is_state f ≡ true → flat (state_of f) ≡ f
unfolding is_state state_of flat
returns_flat_lem f e =
    let q = and_both (are_flags f.continuous f.standby f.converting && is_output f.output f.place) (is_phase f.phase f.direction f.address f.remaining) e in
    let o = and_both (are_flags f.continuous f.standby f.converting) (is_output f.output f.place) q.0 in
    let g = and_both (is_flag f.continuous && is_flag f.standby) (is_flag f.converting) o.0 in
    let h = and_both (is_flag f.continuous) (is_flag f.standby) g.0 in
    let output = output_flat f.output f.place o.1 in
    let phase = phase_flat f.phase f.direction f.address f.remaining q.1 in
    λ i. record {
      registers = f.registers;
      owners = f.owners;
      latest = f.latest;
      output = output.code_same i;
      place = output.place_same i;
      continuous = flag_flat f.continuous h.0 i;
      standby = flag_flat f.standby h.1 i;
      converting = flag_flat f.converting g.1 i;
      shifting = f.shifting;
      phase = phase.code_same i;
      direction = phase.direction_same i;
      address = phase.address_same i;
      remaining = phase.remaining_same i;
    }

pub round_trip : RoundTrip
round_trip = record { stands = stands; returns = returns; returns_flat = returns_flat_lem }

pub comes_back : ComesBack
unfolding state_in
comes_back s = simp (stands s, returns s)
