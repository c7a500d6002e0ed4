-- The flat form of a state: bytes alone, for other languages.
use Rattle.std.specs.Prelude.{ℕ, Bool, cond, Option, None, Some}
use Rattle.ads1299_serial.specs.declared.Direction.{Direction}
use Rattle.ads1299_serial.specs.declared.Direction.TheVariants.{Read, Write}
use Rattle.ads1299_serial.specs.declared.Phase.{Phase}
use Rattle.ads1299_serial.specs.declared.Phase.TheVariants.{Waiting, Held, Counting}
use Rattle.ads1299_serial.specs.declared.Transfer.{Transfer}
use Rattle.ads1299_serial.specs.Transfers.{transfer}
use Rattle.ads1299.specs.declared.Converter.{Converter}
use Rattle.flat.specs.declared.FlatConverter.{FlatConverter}
use Rattle.flat.specs.Codes.{off, on, empty, at_place, waiting, held, counting, read, write}

-- gives a flag's code
abbrev pub flag_code : Bool → ℕ
flag_code flag = cond flag on off

-- gives a direction's code
abbrev pub direction_code : Direction → ℕ
direction_code Read = read
direction_code Write = write

-- gives the code of whether anything is shifted out
abbrev pub output_code : Option ℕ → ℕ
output_code None = empty
output_code (Some place) = at_place

-- gives the output's place, and 0 where it has none
abbrev pub place_of : Option ℕ → ℕ
place_of None = 0
place_of (Some place) = place

-- gives the code of where the converter stands in a command
abbrev pub phase_code : Phase → ℕ
phase_code Waiting = waiting
phase_code (Held t) = held
phase_code (Counting t) = counting

-- gives the transfer under way, and one that is all 0 between commands
abbrev pub transfer_of : Phase → Transfer
transfer_of Waiting = transfer Read 0 0
transfer_of (Held t) = t
transfer_of (Counting t) = t

-- gives the state's flat form; what an empty output or a waiting converter does not use is 0
unfoldable pub flat : Converter → FlatConverter
flat s =
    record {
      registers = s.registers;
      owners = s.owners;
      latest = s.latest;
      output = output_code s.output;
      place = place_of s.output;
      continuous = flag_code s.continuous;
      standby = flag_code s.standby;
      converting = flag_code s.converting;
      shifting = s.shifting;
      phase = phase_code s.phase;
      direction = direction_code (transfer_of s.phase).direction;
      address = (transfer_of s.phase).address;
      remaining = (transfer_of s.phase).remaining;
    }
