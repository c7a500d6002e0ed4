-- The three modes of channel sequencing (document 001), by number.
use Rattle.std.specs.Prelude.{ℕ}
use Rattle.ads7953.specs.declared.Mode.{Mode}
use Rattle.ads7953.specs.declared.Mode.TheVariants.{Manual, Auto1, Auto2}

-- gives a mode's number, in the order of document 02, No. 6
abbrev pub mode_number : Mode → ℕ
mode_number Manual = 0
mode_number Auto1 = 1
mode_number Auto2 = 2
