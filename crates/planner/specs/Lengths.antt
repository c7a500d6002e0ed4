-- What is claimed of plans' lengths.
use Rattle.std.specs.Prelude.{◌≤◌, ◌≡◌, length}
use Rattle.request.specs.declared.Request.{Request}
use Rattle.ads1299.specs.declared.Converter.{Converter}
use Rattle.planner.specs.Plan.{plan_of, plan_length, longest_plan}

-- A plan has as many bytes as refusal 9 counts.
abbrev pub PlansCounted : Type 0
PlansCounted = (s : Converter) (r : Request) → length (plan_of s r) ≡ plan_length s r

-- No plan is longer than the longest.
abbrev pub PlansFit : Type 0
PlansFit = (s : Converter) (r : Request) → plan_length s r ≤ longest_plan
