-- The numbers that stand for the cases of a state in its flat form.
use Rattle.std.specs.Prelude.{ℕ}

-- a flag that is off
abbrev pub off : ℕ
off = 0

-- a flag that is on
abbrev pub on : ℕ
on = 1

-- nothing is shifted out
abbrev pub empty : ℕ
empty = 0

-- the frame is shifted out from a place on
abbrev pub at_place : ℕ
at_place = 1

-- no command is under way
abbrev pub waiting : ℕ
waiting = 0

-- the first byte of a register read or write has come
abbrev pub held : ℕ
held = 1

-- its second byte has come too
abbrev pub counting : ℕ
counting = 2

-- registers are read
abbrev pub read : ℕ
read = 0

-- registers are written
abbrev pub write : ℕ
write = 1
