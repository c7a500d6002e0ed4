-- Demand 2 on the bench: what demand2.Demand2 says of one converter, with each byte of a plan sent to the plan's own converter, and every other
-- converter as it was. Then the rise of that converter's select line (document 02, No. 4).
use Rattle.std.specs.Prelude.{ℕ, ◌<◌, ◌≡◌, true, false, [], length, replicate, None}
use Rattle.refusal.specs.Numbers.{none}
use Rattle.refusal.specs.First.{first_of, Exact}
use Rattle.ads1299.specs.State.{with_registers, with_output}
use Rattle.ads1299_fields.specs.declared.Place.{Place}
use Rattle.ads1299_settings.specs.Registers.{read_at}
use Rattle.ads1299_settings.specs.Settings.{all_apart}
use Rattle.request.specs.Requests.{value_count}
use Rattle.planner.specs.Submission.{Submission}
use Rattle.planner.specs.Settings.{setting_at, settings, sets_field}
use Rattle.planner.specs.Planned.{plan}
use Rattle.lines.specs.Lines.{local_channel}
use Rattle.lines.specs.Ranges.{names}
use Rattle.bench.specs.declared.Bench.{Bench}
use Rattle.bench.specs.Bench.{at, valid_bench}
use Rattle.bench.specs.Formed.{FormedBench}
use Rattle.bench.specs.Line.{bench_moved, bench_deselected}
use Rattle.bench.specs.Run.{bytes_for, bench_after, bench_run_refusals}
use Rattle.bench_planner.specs.Local.{target, localised}
use Rattle.bench_planner.specs.Fields.{bench_named, bench_field}
use Rattle.bench_planner.specs.Refusals.{bench_refusals}
use Rattle.bench_planner.specs.Planned.{bench_planned, bench_plan}

-- gives the bench after the plan's bytes, each to its converter, one by one through the byte step
abbrev pub sent : Bench → Submission → Bench
sent b x = bench_after b (bench_plan b x)

-- an accepted request is fulfilled by the bytes of its plan
pub record Fulfilled (b : Bench) (x : Submission) : Type 0 where
  -- the plan is for the converter that the request names, and so is each of its bytes
  pub converter : names (bench_planned b x).converter x.request.channel ≡ true
  pub bytes : bench_plan b x ≡ bytes_for (bench_planned b x).converter (plan (at b (target x)) (localised x))
  -- none of them is refused
  pub unrefused : bench_run_refusals b (bench_plan b x) ≡ replicate (length (bench_plan b x)) none
  -- each value stands in its field: the one, or a channel's nine
  pub values : (i : ℕ) → i < value_count x.request.field
      → bench_field (sent b x) (setting_at x.request i).field x.request.channel ≡ (setting_at x.request i).value
  -- every other field of the bench is as it was
  pub fields : (f n : ℕ) → bench_named f n ≡ true → sets_field x.request f n ≡ false → bench_field (sent b x) f n ≡ bench_field b f n
  -- and so is every place, of any register of that converter, that has no bit of a field that is set
  pub places : (j : Place) → all_apart (local_channel x.request.channel) (settings x.request) j ≡ true
      → read_at (at (sent b x) (bench_planned b x).converter).registers j ≡ read_at (at b (bench_planned b x).converter).registers j
  -- all but its registers is as it was, the modes too, and nothing is pending
  pub rest : at (sent b x) (bench_planned b x).converter
      ≡ with_output (with_registers (at b (bench_planned b x).converter) (at (sent b x) (bench_planned b x).converter).registers) None
  -- every other converter is wholly as it was
  pub others : (k : ℕ) → (k ≡ (bench_planned b x).converter → ⊥) → at (sent b x) k ≡ at b k
  -- the planner answers the bench in which the bytes end, which passes 13, and how many they are
  pub next : (bench_planned b x).next ≡ sent b x
  pub passes : valid_bench (bench_planned b x).next ≡ true
  pub counted : (bench_planned b x).length ≡ length (bench_plan b x)
  -- and deselecting that converter then leaves the bench as it is
  pub rise : bench_deselected (sent b x) (bench_planned b x).converter ≡ bench_moved none (sent b x)

-- a refused request changes nothing, sends nothing and carries no converter's number
pub record Refused (b : Bench) (x : Submission) : Type 0 where
  pub next : (bench_planned b x).next ≡ b
  pub converter : (bench_planned b x).converter ≡ 0
  pub counted : (bench_planned b x).length ≡ 0
  pub bytes : bench_plan b x ≡ []

-- the number is that of the first refusal that applies, and 0 exactly when none does; at 0 the request is fulfilled
pub record Answered (b : Bench) (x : Submission) : Type 0 where
  pub first : (bench_planned b x).refusal ≡ first_of (bench_refusals b (bench_field b) x)
  pub exact : Exact (bench_refusals b (bench_field b) x)
  pub fulfilled : (bench_planned b x).refusal ≡ none → Fulfilled b x
  pub refused : ((bench_planned b x).refusal ≡ none → ⊥) → Refused b x

-- Every request is so answered, on every bench that the code can hold.
abbrev pub BenchDemand2 : Type 0
BenchDemand2 = (b : Bench) → FormedBench b → (x : Submission) → Answered b x
