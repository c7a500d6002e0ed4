-- What the planner of the bench answers, as document 02 writes it: a refusal's number, or 0; the number of the converter and the length of
-- the plan, both 0 on a refusal; and the bench after, on a refusal the one that was given.
use Rattle.std.specs.Prelude.{ℕ, Result, Ok, Err}
use Rattle.refusal.specs.Numbers.{none}
use Rattle.refusal.specs.declared.Refusal.{Refusal}
use Rattle.refusal.specs.Refusals.{number_of}
use Rattle.bench.specs.declared.Bench.{Bench}
use Rattle.bench_planner.specs.declared.BenchPlan.{BenchPlan}

pub record BenchPlanned : Type 0 where
  pub refusal : ℕ
  pub converter : ℕ
  pub length : ℕ
  pub next : Bench

-- gives the answer to a request for a bench, for every case of what the code hands back
abbrev pub bench_plan_answer : Bench → Result BenchPlan Refusal → BenchPlanned
bench_plan_answer b (Ok plan) = record { refusal = none; converter = plan.converter; length = plan.length; next = plan.next }
bench_plan_answer b (Err refusal) = record { refusal = number_of refusal; converter = 0; length = 0; next = b }
