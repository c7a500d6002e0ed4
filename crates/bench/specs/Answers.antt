-- What the bench's entry points answer, as document 02 writes it: a refusal's number, or 0; the byte out, which is 0 on a refusal; and
-- the bench after, on a refusal the one that was given. For every case of what the code hands back, that answer.
use Rattle.std.specs.Prelude.{ℕ, Result, Ok, Err}
use Rattle.refusal.specs.Numbers.{none}
use Rattle.refusal.specs.declared.Refusal.{Refusal}
use Rattle.refusal.specs.Refusals.{number_of, number_in}
use Rattle.bench.specs.declared.Bench.{Bench}
use Rattle.ads1299.specs.declared.Startup.{Startup}
use Rattle.ads1299.specs.declared.Exchange.{Exchange}

-- of power-up, whose refusal too has a bench
pub record BenchPoweredUp : Type 0 where
  pub refusal : ℕ
  pub bench : Bench

-- of a byte
pub record BenchStepped : Type 0 where
  pub refusal : ℕ
  pub out : ℕ
  pub next : Bench

-- of a select rise, a sample and a grant
pub record BenchMoved : Type 0 where
  pub refusal : ℕ
  pub next : Bench

-- gives the answer of power-up
abbrev pub bench_power_up_answer : Startup Bench → BenchPoweredUp
bench_power_up_answer a = record { refusal = number_in a.refusal; bench = a.state }

-- gives the answer to a byte for one of a bench's converters
abbrev pub bench_step_answer : Bench → Result (Exchange Bench) Refusal → BenchStepped
bench_step_answer b (Ok exchange) = record { refusal = none; out = exchange.out; next = exchange.next }
bench_step_answer b (Err refusal) = record { refusal = number_of refusal; out = 0; next = b }

-- gives the answer to what moves a bench
abbrev pub bench_moved_answer : Bench → Result Bench Refusal → BenchMoved
bench_moved_answer b (Ok next) = record { refusal = none; next = next }
bench_moved_answer b (Err refusal) = record { refusal = number_of refusal; next = b }
