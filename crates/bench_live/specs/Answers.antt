-- What the planner answers beside the live bench.
use Rattle.std.specs.Prelude.{ℕ, Result, Ok, Err}
use Rattle.refusal.specs.Numbers.{none}
use Rattle.refusal.specs.declared.Refusal.{Refusal}
use Rattle.refusal.specs.Refusals.{number_of}
use Rattle.bench_planner.specs.Answers.{BenchPlanned}
use Rattle.bench_live.specs.declared.LivePlan.{LivePlan}

-- a refusal's number, or 0; and of the plan what BenchPlanned has
pub record Answer : Type 0 where
  pub refusal : ℕ
  pub converter : ℕ
  pub length : ℕ

-- gives what an answer says beside the bench
abbrev pub answer_of : BenchPlanned → Answer
answer_of p = record { refusal = p.refusal; converter = p.converter; length = p.length }

-- gives that answer for every case of what the code hands back
abbrev pub live_plan_answer : Result LivePlan Refusal → Answer
live_plan_answer (Ok plan) = record { refusal = none; converter = plan.converter; length = plan.length }
live_plan_answer (Err refusal) = record { refusal = number_of refusal; converter = 0; length = 0 }
