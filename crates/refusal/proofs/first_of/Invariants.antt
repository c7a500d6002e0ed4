-- The loop keeps that what is left decides: an invariant about the rest of the list, not about what was passed.
use Rattle.std.specs.Prelude.{drop, map, ◌≡◌}
use Rattle.refusal.specs.First.{first_given}
use Rattle.refusal.specs.Refusals.{number_in}
use Rattle.refusal.proofs.first_of.Given as goal

abbrev pub invariant-loop-test : goal.invariant-loop-test
invariant-loop-test l = first_given (map number_in l.tests) ≡ first_given (map number_in (drop l.test-index l.tests))
