-- A register read or write, from its first byte to its last, and where a converter stands in it.
use Rattle.std.specs.Prelude.{ℕ, ◌+◌, ◌-◌, Bool, true, false, cond, not, ◌&&◌, leb, ltb, eqb}
use Rattle.ads1299_serial.specs.declared.Direction.{Direction}
use Rattle.ads1299_serial.specs.declared.Transfer.{Transfer}
use Rattle.ads1299_serial.specs.declared.Phase.{Phase}
use Rattle.ads1299_serial.specs.declared.Phase.TheVariants.{Waiting, Held, Counting}

-- the largest first address, and the largest second byte
abbrev pub last_address : ℕ
last_address = 31

-- the most registers that a transfer can have
abbrev pub most_registers : ℕ
most_registers = 32

-- gives a transfer from its parts
abbrev pub transfer : Direction → ℕ → ℕ → Transfer
transfer direction address remaining = record { direction = direction; address = address; remaining = remaining }

-- between commands
abbrev pub is_waiting : Phase → Bool
is_waiting Waiting = true
is_waiting (Held t) = false
is_waiting (Counting t) = false

-- gives where a transfer stands after its second byte, the number of registers minus one: above 31 the command is dropped
unfoldable pub begun : Transfer → ℕ → Phase
begun t b = cond (leb b last_address) (Counting (transfer t.direction t.address (b + 1))) Waiting

-- a transfer that counts its bytes: 1 to 32 are left, and the next address with them is at most 63
unfoldable pub countable : Transfer → Bool
countable t =
    not (eqb t.remaining 0) && leb t.remaining most_registers && leb (t.address + t.remaining) (last_address + most_registers)

-- gives where a transfer stands after one more of its registers: waiting after the last, and where no converter counts so
unfoldable pub remainder : Transfer → Phase
remainder t =
    cond (ltb 1 t.remaining && countable t) (Counting (transfer t.direction (t.address + 1) (t.remaining - 1))) Waiting

-- where a converter can stand in a command, given whether one may stand half given
abbrev pub valid_phase : Phase → Bool → Bool
valid_phase Waiting may = true
valid_phase (Held t) may = may && leb t.address last_address
valid_phase (Counting t) may = may && countable t
