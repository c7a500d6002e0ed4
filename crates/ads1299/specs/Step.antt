-- The byte step (document 01, "The converter, byte by byte"): the byte that goes out, and the state after the byte that comes in.
use Rattle.std.specs.Prelude.{ℕ, true, false, cond, get_or}
use Rattle.refusal.specs.Numbers.{none, invalid_state}
use Rattle.ads1299_registers.specs.Addresses.{ID}
use Rattle.ads1299.specs.declared.Converter.{Converter}
use Rattle.ads1299_serial.specs.declared.Transfer.{Transfer}
use Rattle.ads1299.specs.Answers.{Stepped}
use Rattle.ads1299_serial.specs.declared.Direction.{Direction}
use Rattle.ads1299_serial.specs.declared.Direction.TheVariants.{Read, Write}
use Rattle.ads1299_serial.specs.declared.Phase.{Phase}
use Rattle.ads1299_serial.specs.declared.Phase.TheVariants.{Waiting, Held, Counting}
use Rattle.ads1299_commands.specs.declared.Command.{Command}
use Rattle.ads1299_commands.specs.declared.Command.TheVariants.{Wakeup, Standby, Reset, Start, Stop, Rdatac, Sdatac, Rdata, Rreg, Wreg, Unlisted}
use Rattle.ads1299.specs.Registers.{register_at, written}
use Rattle.ads1299.specs.State.{with_registers, with_continuous, with_standby, with_converting, with_phase}
use Rattle.ads1299.specs.PowerUp.{restored}
use Rattle.ads1299_commands.specs.Commands.{decoded, acts}
use Rattle.ads1299_serial.specs.Transfers.{transfer, begun, remainder}
use Rattle.ads1299_serial.specs.Output.{pending}
use Rattle.ads1299.specs.Output.{emptied, loaded, ignored}
use Rattle.ads1299.specs.Validity.{valid}

-- gives the state after the first byte of a transfer; its number of registers is not known yet
abbrev pub held : Converter → Direction → ℕ → Converter
held s direction a = with_phase s (Held (transfer direction a 0))

-- gives the state after a command that acts, from the state with its output emptied: what the command's name says, nothing else
unfoldable pub effect : Command → Converter → Converter
effect Wakeup s = with_standby s false
effect Standby s = with_standby s true
effect Reset s = restored (get_or s.registers ID 0) s.owners
effect Start s = with_converting s true
effect Stop s = with_converting s false
effect Rdatac s = with_continuous s true
effect Sdatac s = with_continuous s false
effect Rdata s = loaded s
effect (Rreg a) s = held s Read a
effect (Wreg a) s = held s Write a
effect Unlisted s = s

-- gives the state after a byte that comes while the converter waits
unfoldable pub commanded : Converter → Command → Converter
commanded s c = cond (acts c s.standby s.continuous s.converting) (effect c (emptied s)) (ignored s)

-- gives the state after a register's byte, by direction: a read changes nothing else, a write that register alone
abbrev pub counted_in : Direction → Converter → Transfer → ℕ → Converter
counted_in Read s t b = with_phase s (remainder t)
counted_in Write s t b = with_registers (with_phase s (remainder t)) (written s.registers t.address b)

-- gives the state after a register's byte
unfoldable pub counted : Converter → Transfer → ℕ → Converter
counted s t b = counted_in t.direction s t b

-- gives the byte that goes out while a transfer counts: the register as it stands at this moment
abbrev pub counted_out : Direction → Converter → Transfer → ℕ
counted_out Read s t = register_at s.registers t.address
counted_out Write s t = pending s.output s.shifting

-- gives the byte that goes out, by where the converter stands in a command
abbrev pub outgoing_in : Phase → Converter → ℕ
outgoing_in Waiting s = pending s.output s.shifting
outgoing_in (Held t) s = pending s.output s.shifting
outgoing_in (Counting t) s = counted_out t.direction s t

-- gives the byte that goes out, which is fixed before the byte that comes in is acted on
unfoldable pub outgoing : Converter → ℕ
outgoing s = outgoing_in s.phase s

-- gives the state after a byte, by where the converter stands in a command
abbrev pub followed_in : Phase → Converter → ℕ → Converter
followed_in Waiting s b = commanded s (decoded b)
followed_in (Held t) s b = with_phase s (begun t b)
followed_in (Counting t) s b = counted s t b

-- gives the state after a byte
unfoldable pub followed : Converter → ℕ → Converter
followed s b = followed_in s.phase s b

-- gives the answer to a byte: refused only by 13
unfoldable pub stepped : Converter → ℕ → Stepped
stepped s b =
    cond (valid s)
    (record { refusal = none; out = outgoing s; next = followed s b })
    (record { refusal = invalid_state; out = 0; next = s })
