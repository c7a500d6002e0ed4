-- The loop keeps that the bytes so far, and those of the numbers left, are all.
use Rattle.request.proofs.Writing.{Halfway}
use Rattle.request.proofs.stage.Given as goal

abbrev pub invariant-loop-number : goal.invariant-loop-number
invariant-loop-number l = Halfway l.numbers l.staged.items l.number-index
