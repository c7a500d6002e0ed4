-- The way back: which flat forms stand for a state, and for which.
use Rattle.std.specs.Prelude.{ℕ, Bool, cond, ◌&&◌, eqb, leb, Option, None, Some, Result, Ok, Err}
use Rattle.refusal.specs.declared.Refusal.{Refusal}
use Rattle.refusal.specs.declared.Refusal.TheVariants.{InvalidState}
use Rattle.ads1299_serial.specs.declared.Direction.{Direction}
use Rattle.ads1299_serial.specs.declared.Direction.TheVariants.{Read, Write}
use Rattle.ads1299_serial.specs.declared.Phase.{Phase}
use Rattle.ads1299_serial.specs.declared.Phase.TheVariants.{Waiting, Held, Counting}
use Rattle.ads1299_serial.specs.declared.Transfer.{Transfer}
use Rattle.ads1299_serial.specs.Transfers.{transfer}
use Rattle.ads1299.specs.declared.Converter.{Converter}
use Rattle.ads1299.specs.State.{state}
use Rattle.flat.specs.declared.FlatConverter.{FlatConverter}
use Rattle.flat.specs.Codes.{on, empty, at_place, waiting, held, counting, write}

-- tells whether a number is a flag's code
abbrev pub is_flag : ℕ → Bool
is_flag code = leb code on

-- tells whether the three flags have codes
abbrev pub are_flags : ℕ → ℕ → ℕ → Bool
are_flags continuous standby converting = is_flag continuous && is_flag standby && is_flag converting

-- tells whether an output has this code and place: an empty one has place 0
unfoldable pub is_output : ℕ → ℕ → Bool
is_output code place = cond (eqb code empty) (eqb place 0) (eqb code at_place)

-- tells whether a phase has this code, direction, address and number of registers left: a waiting converter's are 0
unfoldable pub is_phase : ℕ → ℕ → ℕ → ℕ → Bool
is_phase code direction address remaining =
    cond (eqb code waiting)
    (eqb direction 0 && eqb address 0 && eqb remaining 0)
    (leb code counting && leb direction write)

-- tells whether a flat form stands for a state; whether a converter can be in that state is another matter
unfoldable pub is_state : FlatConverter → Bool
is_state f =
    are_flags f.continuous f.standby f.converting
    && is_output f.output f.place
    && is_phase f.phase f.direction f.address f.remaining

-- gives the direction of a code
abbrev pub direction_of : ℕ → Direction
direction_of code = cond (eqb code write) Write Read

-- gives the output of a code and a place
abbrev pub output_of : ℕ → ℕ → Option ℕ
output_of code place = cond (eqb code at_place) (Some place) None

-- gives the phase of a code and a transfer
abbrev pub phase_of : ℕ → Transfer → Phase
phase_of code t = cond (eqb code held) (Held t) (cond (eqb code counting) (Counting t) Waiting)

-- gives the state that a flat form stands for; asked only where it stands for one
unfoldable pub state_of : FlatConverter → Converter
state_of f =
    state f.registers f.owners f.latest (output_of f.output f.place)
    (eqb f.continuous on) (eqb f.standby on) (eqb f.converting on)
    f.shifting (phase_of f.phase (transfer (direction_of f.direction) f.address f.remaining))

-- gives the state that a flat form stands for; where it stands for none, refusal 13
unfoldable pub state_in : FlatConverter → Result Converter Refusal
state_in f = cond (is_state f) (Ok (state_of f)) (Err InvalidState)
