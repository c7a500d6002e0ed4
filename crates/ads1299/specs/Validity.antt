-- Refusal 13: whether a converter can be in the state that it is said to be in.
use Rattle.std.specs.Prelude.{ℕ, Bool, not, ◌&&◌, get_or, Option}
use Rattle.ads1299_registers.specs.Addresses.{ID}
use Rattle.ads1299_serial.specs.Transfers.{valid_phase}
use Rattle.ads1299_serial.specs.Output.{is_empty, valid_place}
use Rattle.ads1299.specs.declared.Converter.{Converter}
use Rattle.parties.specs.Owners.{known_owners}
use Rattle.ads1299.specs.PowerUp.{valid_id}

-- a command may stand half given: in command mode, awake, with nothing pending
abbrev pub interruptible : Bool → Bool → Option ℕ → Bool
interruptible continuous standby output = not continuous && not standby && is_empty output

-- what refusal 13 asks of the converter itself
unfoldable pub valid_converter : Converter → Bool
valid_converter s = valid_id (get_or s.registers ID 0) && valid_place s.output && valid_phase s.phase (interruptible s.continuous s.standby s.output)

-- refusal 13 does not apply
unfoldable pub valid : Converter → Bool
valid s = valid_converter s && known_owners s.owners
