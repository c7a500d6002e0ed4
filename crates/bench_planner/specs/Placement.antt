-- What is claimed of a plan for the bench in the transmit buffer (document 01: sheet).
use Rattle.std.specs.Prelude.{ℕ, ◌+◌, ◌≡◌, List, map, length, take, drop}
use Rattle.refusal.specs.Numbers.{none}
use Rattle.request.specs.declared.Request.{Request}
use Rattle.planner.specs.Submission.{Submission, submission}
use Rattle.bench.specs.declared.Bench.{Bench}
use Rattle.bench_planner.specs.Planned.{bench_planned, bench_plan}
use Rattle.bench_planner.specs.Buffer.{bench_tx_after}

-- the plan's bytes, without their converter's number, lie in the buffer from the place on; every byte before and after them is as it was
pub record InPlace (b : Bench) (x : Submission) (tx : List ℕ) (at : ℕ) : Type 0 where
  pub bytes : take (bench_planned b x).length (drop at (bench_tx_after b x tx at)) ≡ map (λ (y : ℕ × ℕ). y.1) (bench_plan b x)
  pub before : take at (bench_tx_after b x tx at) ≡ take at tx
  pub after : drop (at + (bench_planned b x).length) (bench_tx_after b x tx at) ≡ drop (at + (bench_planned b x).length) tx

-- the buffer keeps its length; an accepted request's plan lies in it, and a refused request leaves it as it was
pub record Placed (b : Bench) (x : Submission) (tx : List ℕ) (at : ℕ) : Type 0 where
  pub size : length (bench_tx_after b x tx at) ≡ length tx
  pub accepted : (bench_planned b x).refusal ≡ none → InPlace b x tx at
  pub refused : ((bench_planned b x).refusal ≡ none → ⊥) → bench_tx_after b x tx at ≡ tx

-- Every request for a place of a buffer is so placed, its room being what the buffer has from there on.
abbrev pub Placement : Type 0
Placement = (b : Bench) (party : ℕ) (r : Request) (tx : List ℕ) (at : ℕ) → Placed b (submission party r tx at) tx at
