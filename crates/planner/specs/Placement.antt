-- What is claimed of a plan in the transmit buffer (document 01: sheet).
use Rattle.std.specs.Prelude.{ℕ, ◌+◌, ◌≡◌, List, length, take, drop}
use Rattle.refusal.specs.Numbers.{none}
use Rattle.request.specs.declared.Request.{Request}
use Rattle.ads1299.specs.declared.Converter.{Converter}
use Rattle.planner.specs.Submission.{Submission, submission}
use Rattle.planner.specs.Plan.{plan_length}
use Rattle.planner.specs.Planned.{plan, planned}
use Rattle.planner.specs.Buffer.{tx_after}

-- the plan lies in the buffer from the place on; every byte before and after it is as it was
pub record InPlace (s : Converter) (x : Submission) (tx : List ℕ) (at : ℕ) : Type 0 where
  pub bytes : take (plan_length s x.request) (drop at (tx_after s x tx at)) ≡ plan s x
  pub before : take at (tx_after s x tx at) ≡ take at tx
  pub after : drop (at + plan_length s x.request) (tx_after s x tx at) ≡ drop (at + plan_length s x.request) tx

-- the buffer keeps its length; an accepted request's plan lies in it, and a refused request leaves it as it was
pub record Placed (s : Converter) (x : Submission) (tx : List ℕ) (at : ℕ) : Type 0 where
  pub size : length (tx_after s x tx at) ≡ length tx
  pub accepted : (planned s x).refusal ≡ none → InPlace s x tx at
  pub refused : ((planned s x).refusal ≡ none → ⊥) → tx_after s x tx at ≡ tx

-- Every request for a place of a buffer is so placed, its room being what the buffer has from there on.
abbrev pub Placement : Type 0
Placement = (s : Converter) (party : ℕ) (r : Request) (tx : List ℕ) (at : ℕ) → Placed s (submission party r tx at) tx at
