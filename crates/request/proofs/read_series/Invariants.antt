-- The loop keeps that the numbers so far, and the series of those left, are the whole, and that the array is 0 past them.
use Rattle.std.proofs.Common.{take}
use Rattle.request.proofs.Padding.{OnlyFirst}
use Rattle.request.proofs.Reading.{Halfway}
use Rattle.request.proofs.read_series.Given as goal

abbrev pub invariant-loop-i : goal.invariant-loop-i
invariant-loop-i l = Halfway l.count l.bytes (take l.i l.numbers) l.used l.i × OnlyFirst l.numbers l.i
