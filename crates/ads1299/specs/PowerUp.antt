-- The one rule by which a converter comes into being (document 01, "The bench and its parties").
use Rattle.std.specs.Prelude.{ℕ, ◌%◌, Bool, true, false, cond, List, eqb, replicate, set, None}
use Rattle.refusal.specs.Numbers.{none, invalid_state}
use Rattle.ads1299_registers.specs.Addresses.{ID, channel_count}
use Rattle.ads1299_frame.specs.Frame.{frame_length}
use Rattle.ads1299.specs.declared.Converter.{Converter}
use Rattle.ads1299_serial.specs.declared.Phase.TheVariants.{Waiting}
use Rattle.ads1299.specs.Answers.{PoweredUp}
use Rattle.parties.specs.Parties.{admin}
use Rattle.ads1299_registers.specs.Table.{power_up}
use Rattle.ads1299.specs.State.{state}

-- an ADS1299's ID: the low five bits are fixed, the top three free
unfoldable pub valid_id : ℕ → Bool
valid_id id = eqb (id % 32) 0x1E

-- gives the frame at power-up: 27 zero bytes
abbrev pub no_frame : List ℕ
no_frame = replicate frame_length 0

-- gives the power-up state with an ID and owners; RESET comes back to it as well
unfoldable pub restored : ℕ → List ℕ → Converter
restored id owners = state (set power_up ID id) owners no_frame None true false false no_frame Waiting

-- gives the answer of power-up: all channels are the administrator's, and a refused ID comes back as 0
unfoldable pub powered_up : ℕ → PoweredUp
powered_up id =
    cond (valid_id id)
    (record { refusal = none; converter = restored id (replicate channel_count admin) })
    (record { refusal = invalid_state; converter = restored 0 (replicate channel_count admin) })
