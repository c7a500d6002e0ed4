-- The state with one part changed and all else as it is, and the answer that is a number and a state.
use Rattle.std.specs.Prelude.{ℕ, Bool, List, Option}
use Rattle.ads1299.specs.declared.Converter.{Converter}
use Rattle.ads1299.specs.Answers.{Moved}
use Rattle.ads1299_serial.specs.declared.Phase.{Phase}

-- gives a state from all its parts
abbrev pub state : List ℕ → List ℕ → List ℕ → Option ℕ → Bool → Bool → Bool → List ℕ → Phase → Converter
state registers owners latest output continuous standby converting shifting phase =
    record {
      registers = registers;
      owners = owners;
      latest = latest;
      output = output;
      continuous = continuous;
      standby = standby;
      converting = converting;
      shifting = shifting;
      phase = phase;
    }

abbrev pub with_registers : Converter → List ℕ → Converter
with_registers s x = state x s.owners s.latest s.output s.continuous s.standby s.converting s.shifting s.phase

abbrev pub with_owners : Converter → List ℕ → Converter
with_owners s x = state s.registers x s.latest s.output s.continuous s.standby s.converting s.shifting s.phase

abbrev pub with_latest : Converter → List ℕ → Converter
with_latest s x = state s.registers s.owners x s.output s.continuous s.standby s.converting s.shifting s.phase

abbrev pub with_output : Converter → Option ℕ → Converter
with_output s x = state s.registers s.owners s.latest x s.continuous s.standby s.converting s.shifting s.phase

abbrev pub with_continuous : Converter → Bool → Converter
with_continuous s x = state s.registers s.owners s.latest s.output x s.standby s.converting s.shifting s.phase

abbrev pub with_standby : Converter → Bool → Converter
with_standby s x = state s.registers s.owners s.latest s.output s.continuous x s.converting s.shifting s.phase

abbrev pub with_converting : Converter → Bool → Converter
with_converting s x = state s.registers s.owners s.latest s.output s.continuous s.standby x s.shifting s.phase

abbrev pub with_shifting : Converter → List ℕ → Converter
with_shifting s x = state s.registers s.owners s.latest s.output s.continuous s.standby s.converting x s.phase

abbrev pub with_phase : Converter → Phase → Converter
with_phase s x = state s.registers s.owners s.latest s.output s.continuous s.standby s.converting s.shifting x

-- gives an answer that is a refusal number and a state
abbrev pub moved : ℕ → Converter → Moved
moved refusal s = record { refusal = refusal; next = s }
