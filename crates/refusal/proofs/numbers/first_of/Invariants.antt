-- The loop keeps that what is left decides.
use Rattle.std.specs.Prelude.{drop, ◌≡◌}
use Rattle.refusal.specs.First.{first_given}
use Rattle.refusal.proofs.numbers.first_of.Given as goal

abbrev pub invariant-loop-number : goal.invariant-loop-number
invariant-loop-number l = first_given l.numbers ≡ first_given (drop l.number-index l.numbers)
