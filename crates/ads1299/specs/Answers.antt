-- What the entry points answer, as document 01 writes it ("Refusal numbers"): a refusal's number, or 0; the byte out, which is 0 on a
-- refusal; and the state after, on a refusal the one that was given. For every case of what the code hands back, that answer.
use Rattle.std.specs.Prelude.{ℕ, Result, Ok, Err}
use Rattle.refusal.specs.Numbers.{none}
use Rattle.refusal.specs.declared.Refusal.{Refusal}
use Rattle.refusal.specs.Refusals.{number_of, number_in}
use Rattle.ads1299.specs.declared.Converter.{Converter}
use Rattle.ads1299.specs.declared.Startup.{Startup}
use Rattle.ads1299.specs.declared.Exchange.{Exchange}

-- of power-up, whose refusal too has a converter
pub record PoweredUp : Type 0 where
  pub refusal : ℕ
  pub converter : Converter

-- of a byte
pub record Stepped : Type 0 where
  pub refusal : ℕ
  pub out : ℕ
  pub next : Converter

-- of a select rise, a sample and a grant
pub record Moved : Type 0 where
  pub refusal : ℕ
  pub next : Converter

-- gives the answer of power-up
abbrev pub power_up_answer : Startup Converter → PoweredUp
power_up_answer a = record { refusal = number_in a.refusal; converter = a.state }

-- gives the answer to a byte in a state
abbrev pub step_answer : Converter → Result (Exchange Converter) Refusal → Stepped
step_answer s (Ok exchange) = record { refusal = none; out = exchange.out; next = exchange.next }
step_answer s (Err refusal) = record { refusal = number_of refusal; out = 0; next = s }

-- gives the answer to what moves a state
abbrev pub moved_answer : Converter → Result Converter Refusal → Moved
moved_answer s (Ok next) = record { refusal = none; next = next }
moved_answer s (Err refusal) = record { refusal = number_of refusal; next = s }
