-- A word's bits, DI15 to DI00 (document 001, Tables 1 to 7).
use Rattle.std.specs.Prelude.{ℕ, Bool, cond, eqb}
use Rattle.bits.specs.Fields.{field, bit}
use Rattle.ads7953.specs.declared.words.Command.{Command}
use Rattle.ads7953.specs.declared.words.Command.TheVariants.{Continue, SelectManual, SelectAuto1, SelectAuto2, ProgramAuto1, ProgramAuto2}

-- DI15-12 of a word that selects manual mode
abbrev pub MANUAL : ℕ
MANUAL = 1

-- DI15-12 of a word that selects auto-1 mode
abbrev pub AUTO1 : ℕ
AUTO1 = 2

-- DI15-12 of a word that selects auto-2 mode
abbrev pub AUTO2 : ℕ
AUTO2 = 3

-- DI15-12 of a word that enters the programming of auto-1: the word after it is the list
abbrev pub PROGRAM_AUTO1 : ℕ
PROGRAM_AUTO1 = 8

-- DI15-12 of a word that programs auto-2
abbrev pub PROGRAM_AUTO2 : ℕ
PROGRAM_AUTO2 = 9

-- gives DI15-12
abbrev pub top : ℕ → ℕ
top w = field w 12 4

-- gives what a word asks for; 0 in its top four bits, and every number that is not listed, lets the mode go on
unfoldable pub decoded : ℕ → Command
decoded w =
    cond (eqb (top w) MANUAL) SelectManual
    (cond (eqb (top w) AUTO1) SelectAuto1
    (cond (eqb (top w) AUTO2) SelectAuto2
    (cond (eqb (top w) PROGRAM_AUTO1) ProgramAuto1
    (cond (eqb (top w) PROGRAM_AUTO2) ProgramAuto2 Continue))))

-- DI11: the word programs settings; where it is 0 they are retained
unfoldable pub programs : ℕ → Bool
programs w = bit w 11

-- gives a setting after a word for a mode: new where DI11 is 1, else as it was
unfoldable pub retained : ℕ → Bool → Bool → Bool
retained w new old = cond (programs w) new old

-- DI10 of a word for an auto mode: the channel counter is reset
unfoldable pub resets_counter : ℕ → Bool
resets_counter w = bit w 10

-- DI06 of a word for a mode: range 2, 0 V to twice the reference
unfoldable pub selects_range2 : ℕ → Bool
selects_range2 w = bit w 6

-- gives DI10-07 of a word for manual mode: the channel
unfoldable pub channel_in : ℕ → ℕ
channel_in w = field w 7 4

-- gives DI09-06 of a word that programs auto-2: the last channel
unfoldable pub last_in : ℕ → ℕ
last_in w = field w 6 4
