-- What a setting request for the bench is answered (document 02, No. 4).
use Rattle.std.specs.Prelude.{ℕ, cond, List, []}
use Rattle.refusal.specs.Numbers.{invalid_state}
use Rattle.refusal.specs.First.{accepted}
use Rattle.planner.specs.Answers.{Planned}
use Rattle.planner.specs.Submission.{Submission}
use Rattle.planner.specs.Planned.{plan, planned}
use Rattle.bench.specs.declared.Bench.{Bench}
use Rattle.bench.specs.Bench.{at, with_converter, valid_bench}
use Rattle.bench.specs.Run.{bytes_for}
use Rattle.bench_planner.specs.Answers.{BenchPlanned}
use Rattle.bench_planner.specs.Local.{target, localised}

-- gives converter k's answer as the bench's: its number goes with a plan, and is 0 on a refusal
abbrev pub answer_from : ℕ → Planned → Bench → BenchPlanned
answer_from k p next = record { refusal = p.refusal; converter = cond (accepted p.refusal) k 0; length = p.length; next = next }

-- gives the answer: that of the converter which the request names, once every converter passes 13
unfoldable pub bench_planned : Bench → Submission → BenchPlanned
bench_planned b x =
    cond (valid_bench b)
    (answer_from (target x) (planned (at b (target x)) (localised x)) (with_converter b (target x) (planned (at b (target x)) (localised x)).next))
    (record { refusal = invalid_state; converter = 0; length = 0; next = b })

-- gives the request's plan, each byte with its converter's number, or no bytes where it is refused
unfoldable pub bench_plan : Bench → Submission → List (ℕ × ℕ)
bench_plan b x = cond (valid_bench b) (bytes_for (target x) (plan (at b (target x)) (localised x))) []
