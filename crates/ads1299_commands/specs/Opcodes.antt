-- The command bytes by their data sheet names. RREG and WREG carry the first address in their low five bits.
use Rattle.std.specs.Prelude.{ℕ}

-- ends standby
abbrev pub WAKEUP : ℕ
WAKEUP = 0x02

-- begins standby
abbrev pub STANDBY : ℕ
STANDBY = 0x04

-- back to the power-up state
abbrev pub RESET : ℕ
RESET = 0x06

-- begins converting
abbrev pub START : ℕ
START = 0x08

-- ends converting
abbrev pub STOP : ℕ
STOP = 0x0A

-- begins continuous mode, in which each new frame goes out by itself
abbrev pub RDATAC : ℕ
RDATAC = 0x10

-- ends continuous mode: command mode
abbrev pub SDATAC : ℕ
SDATAC = 0x11

-- puts the latest frame out once
abbrev pub RDATA : ℕ
RDATA = 0x12

-- reads registers
abbrev pub RREG : ℕ
RREG = 0x20

-- writes registers
abbrev pub WREG : ℕ
WREG = 0x40
