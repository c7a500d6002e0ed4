-- The loop keeps that the digits of the bytes so far are put.
use lib.ListN.{take}
use Rattle.console.specs.Text.{hexes}
use Rattle.console.specs.Wrote.{Wrote}
use Rattle.console.proofs.Writer.put_hexes.Given as goal

abbrev pub invariant-loop-byte : goal.invariant-loop-byte
invariant-loop-byte l = Wrote l.initial.self l.self (hexes (take l.byte-index l.bytes))
