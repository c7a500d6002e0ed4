-- The commands (document 01, "The converter, byte by byte"): which byte is which, and which of them act.
use Rattle.std.specs.Prelude.{ℕ, ◌-◌, ◌%◌, Bool, true, false, cond, not, eqb}
use Rattle.ads1299_commands.specs.declared.Command.{Command}
use Rattle.ads1299_commands.specs.declared.Command.TheVariants.{Wakeup, Standby, Reset, Start, Stop, Rdatac, Sdatac, Rdata, Rreg, Wreg, Unlisted}
use Rattle.ads1299_commands.specs.Opcodes.{WAKEUP, STANDBY, RESET, START, STOP, RDATAC, SDATAC, RDATA, RREG, WREG}

-- gives the register command with the first address in its low five bits
unfoldable pub register_command : ℕ → Command
register_command b =
    cond (eqb (b - b % 32) RREG) (Rreg (b % 32)) (cond (eqb (b - b % 32) WREG) (Wreg (b % 32)) Unlisted)

-- gives what a byte means while the converter waits
unfoldable pub decoded : ℕ → Command
decoded b =
    cond (eqb b WAKEUP) Wakeup
    (cond (eqb b STANDBY) Standby
    (cond (eqb b RESET) Reset
    (cond (eqb b START) Start
    (cond (eqb b STOP) Stop
    (cond (eqb b RDATAC) Rdatac
    (cond (eqb b SDATAC) Sdatac
    (cond (eqb b RDATA) Rdata (register_command b))))))))

-- in standby only WAKEUP acts
abbrev pub is_wakeup : Command → Bool
is_wakeup Wakeup = true
is_wakeup Standby = false
is_wakeup Reset = false
is_wakeup Start = false
is_wakeup Stop = false
is_wakeup Rdatac = false
is_wakeup Sdatac = false
is_wakeup Rdata = false
is_wakeup (Rreg a) = false
is_wakeup (Wreg a) = false
is_wakeup Unlisted = false

-- awake, given whether the converter is in continuous mode and whether it is converting:
-- what would change nothing is ignored, and so are RDATA, RREG and WREG in continuous mode
abbrev pub acts_awake : Command → Bool → Bool → Bool
acts_awake Wakeup continuous converting = false
acts_awake Standby continuous converting = true
acts_awake Reset continuous converting = true
acts_awake Start continuous converting = not converting
acts_awake Stop continuous converting = converting
acts_awake Rdatac continuous converting = not continuous
acts_awake Sdatac continuous converting = continuous
acts_awake Rdata continuous converting = not continuous
acts_awake (Rreg a) continuous converting = not continuous
acts_awake (Wreg a) continuous converting = not continuous
acts_awake Unlisted continuous converting = false

-- whether a command acts, given standby, continuous mode and converting, or is ignored
unfoldable pub acts : Command → Bool → Bool → Bool → Bool
acts c standby continuous converting = cond standby (is_wakeup c) (acts_awake c continuous converting)
