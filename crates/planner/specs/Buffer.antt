-- The transmit buffer (document 01: sheet) after a request.
use Rattle.std.specs.Prelude.{ℕ, cond, List}
use Rattle.splice.specs.Splice.{spliced}
use Rattle.refusal.specs.First.{accepted}
use Rattle.ads1299.specs.declared.Converter.{Converter}
use Rattle.planner.specs.Submission.{Submission}
use Rattle.planner.specs.Plan.{plan_of}
use Rattle.planner.specs.Planned.{refusal_of}

-- gives the buffer after a request: the plan from the place on, or all as it was where it is refused
unfoldable pub tx_after : Converter → Submission → List ℕ → ℕ → List ℕ
tx_after s x tx at = cond (accepted (refusal_of s x)) (spliced tx at (plan_of s x.request)) tx
