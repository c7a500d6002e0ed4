-- What a setting request is answered, by the room that it has.
use Rattle.std.specs.Prelude.{ℕ, cond, List, [], None}
use Rattle.refusal.specs.Numbers.{none}
use Rattle.refusal.specs.First.{accepted}
use Rattle.request.specs.declared.Request.{Request}
use Rattle.ads1299.specs.declared.Converter.{Converter}
use Rattle.ads1299.specs.State.{with_registers, with_output}
use Rattle.ads1299_settings.specs.Registers.{field_of}
use Rattle.planner.specs.Answers.{Planned}
use Rattle.planner.specs.Submission.{Submission}
use Rattle.planner.specs.Plan.{registers_after, plan_of, plan_length}
use Rattle.planner.specs.Refusals.{judged}

-- gives the request's refusal number with the fields' values in the registers, or 0
unfoldable pub refusal_of : Converter → Submission → ℕ
refusal_of s x = judged s (field_of s.registers) x

-- gives the state with the settings made and nothing pending, all else as it is
unfoldable pub changed : Converter → Request → Converter
changed s r = with_output (with_registers s (registers_after s.registers r)) None

-- gives the request's plan, or no bytes where it is refused
unfoldable pub plan : Converter → Submission → List ℕ
plan s x = cond (accepted (refusal_of s x)) (plan_of s x.request) []

-- gives the answer: the refusal, the plan's length and the state after the plan
unfoldable pub planned : Converter → Submission → Planned
planned s x =
    cond (accepted (refusal_of s x))
    (record { refusal = none; length = plan_length s x.request; next = changed s x.request })
    (record { refusal = refusal_of s x; length = 0; next = s })
