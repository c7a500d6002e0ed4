-- For every case of what a call hands back, its flat answer. Where it is refused, the bytes that were given stand in it.
use Rattle.std.specs.Prelude.{ℕ, ◌*◌, List, length, Result, Ok, Err}
use Rattle.refusal.specs.Numbers.{none}
use Rattle.refusal.specs.declared.Refusal.{Refusal}
use Rattle.refusal.specs.Refusals.{number_of}
use Rattle.ads1299.specs.declared.Converter.{Converter}
use Rattle.ads1299.specs.declared.Exchange.{Exchange}
use Rattle.readings.specs.declared.Readout.{Readout}
use Rattle.planner.specs.declared.ConverterPlan.{ConverterPlan}
use Rattle.bench.specs.declared.Bench.{Bench}
use Rattle.bench_planner.specs.declared.BenchPlan.{BenchPlan}
use Rattle.flat.specs.declared.FlatConverter.{FlatConverter}
use Rattle.flat.specs.Flat.{flat}
use Rattle.flat_bench.specs.declared.FlatBench.{FlatBench}
use Rattle.flat_bench.specs.Flat.{flat_bench}
use Rattle.capi.specs.declared.FlatStepped.{FlatStepped}
use Rattle.capi.specs.declared.FlatMoved.{FlatMoved}
use Rattle.capi.specs.declared.FlatPlanned.{FlatPlanned}
use Rattle.capi.specs.declared.FlatPart.{FlatPart}
use Rattle.capi.specs.declared.answers.Located.{Located}
use Rattle.capi.specs.Answers.{no_part}
use Rattle.capi.specs.declared.FlatBenchStepped.{FlatBenchStepped}
use Rattle.capi.specs.declared.FlatBenchMoved.{FlatBenchMoved}
use Rattle.capi.specs.declared.FlatBenchPlanned.{FlatBenchPlanned}

-- gives the answer to a byte
abbrev pub flat_step_answer : FlatConverter → Result (Exchange Converter) Refusal → FlatStepped
flat_step_answer f (Ok exchange) = record { refusal = none; out = exchange.out; next = flat exchange.next }
flat_step_answer f (Err refusal) = record { refusal = number_of refusal; out = 0; next = f }

-- gives the answer to a select rise, a sample or a grant
abbrev pub flat_moved_answer : FlatConverter → Result Converter Refusal → FlatMoved
flat_moved_answer f (Ok next) = record { refusal = none; next = flat next }
flat_moved_answer f (Err refusal) = record { refusal = number_of refusal; next = f }

-- gives the answer of the planner
abbrev pub flat_plan_answer : FlatConverter → Result ConverterPlan Refusal → FlatPlanned
flat_plan_answer f (Ok plan) = record { refusal = none; length = plan.length; next = flat plan.next }
flat_plan_answer f (Err refusal) = record { refusal = number_of refusal; length = 0; next = f }

-- gives the answer to the second reading call
abbrev pub flat_part_answer : Result Located Refusal → FlatPart
flat_part_answer (Ok part) = record { refusal = none; start = part.start; length = part.length }
flat_part_answer (Err refusal) = no_part (number_of refusal)

-- gives the part that goes with a reading, from the channel as its converter counts it and the part's bytes
abbrev pub located : Result Readout Refusal → ℕ → List ℕ → FlatPart
located (Ok readout) channel part = record { refusal = none; start = 3 * channel; length = length part }
located (Err refusal) channel part = no_part (number_of refusal)

-- gives the answer to a byte for one of a bench's converters
abbrev pub flat_bench_step_answer : FlatBench → Result (Exchange Bench) Refusal → FlatBenchStepped
flat_bench_step_answer f (Ok exchange) = record { refusal = none; out = exchange.out; next = flat_bench exchange.next }
flat_bench_step_answer f (Err refusal) = record { refusal = number_of refusal; out = 0; next = f }

-- gives the answer to a select rise, a sample or a grant on a bench
abbrev pub flat_bench_moved_answer : FlatBench → Result Bench Refusal → FlatBenchMoved
flat_bench_moved_answer f (Ok next) = record { refusal = none; next = flat_bench next }
flat_bench_moved_answer f (Err refusal) = record { refusal = number_of refusal; next = f }

-- gives the answer of the planner on a bench
abbrev pub flat_bench_plan_answer : FlatBench → Result BenchPlan Refusal → FlatBenchPlanned
flat_bench_plan_answer f (Ok plan) = record { refusal = none; converter = plan.converter; length = plan.length; next = flat_bench plan.next }
flat_bench_plan_answer f (Err refusal) = record { refusal = number_of refusal; converter = 0; length = 0; next = f }
