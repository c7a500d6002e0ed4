-- What a state that passes 13 has, taken apart and put together.
use mathlib.Core.Path.{◌≡◌}
use mathlib.Core.Bool.{true, ◌&&◌}
use lib.ListN.{get_or}
use Rattle.cases.proofs.Cases.{and_both}
use Rattle.ads1299_registers.specs.Addresses.{ID}
use Rattle.ads1299.specs.declared.Converter.{Converter}
use Rattle.parties.specs.Owners.{known_owners}
use Rattle.ads1299.specs.PowerUp.{valid_id}
use Rattle.ads1299_serial.specs.Transfers.{valid_phase}
use Rattle.ads1299_serial.specs.Output.{valid_place}
use Rattle.ads1299.specs.Validity.{interruptible, valid_converter, valid}

pub record Parts (s : Converter) : Type 0 where
  pub id : valid_id (get_or s.registers ID 0) ≡ true
  pub place : valid_place s.output ≡ true
  pub phase : valid_phase s.phase (interruptible s.continuous s.standby s.output) ≡ true
  pub owners : known_owners s.owners ≡ true

pub parts : (s : Converter) → valid s ≡ true → Parts s
unfolding valid valid_converter
parts s e =
    let a = valid_id (get_or s.registers ID 0) in
    let b = valid_place s.output in
    let c = valid_phase s.phase (interruptible s.continuous s.standby s.output) in
    let x = and_both (a && b && c) (known_owners s.owners) e in
    let y = and_both (a && b) c x.0 in
    let z = and_both a b y.0 in
    record { id = z.0; place = z.1; phase = y.1; owners = x.1 }

pub whole : (s : Converter) → Parts s → valid s ≡ true
unfolding valid valid_converter
whole s p = rw (p.id, p.place, p.phase, p.owners)
