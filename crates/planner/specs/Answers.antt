-- What the planner answers, as document 01 writes it ("Refusal numbers"): a refusal's number, or 0; the plan's length, which is 0 on a
-- refusal; and the state after, on a refusal the one that was given.
use Rattle.std.specs.Prelude.{ℕ, Result, Ok, Err}
use Rattle.refusal.specs.Numbers.{none}
use Rattle.refusal.specs.declared.Refusal.{Refusal}
use Rattle.refusal.specs.Refusals.{number_of}
use Rattle.ads1299.specs.declared.Converter.{Converter}
use Rattle.planner.specs.declared.ConverterPlan.{ConverterPlan}

pub record Planned : Type 0 where
  pub refusal : ℕ
  pub length : ℕ
  pub next : Converter

-- gives the answer to a request in a state, for every case of what the code hands back
abbrev pub plan_answer : Converter → Result ConverterPlan Refusal → Planned
plan_answer s (Ok plan) = record { refusal = none; length = plan.length; next = plan.next }
plan_answer s (Err refusal) = record { refusal = number_of refusal; length = 0; next = s }
