-- What a reading answers, as document 01 writes it ("Refusal numbers"): a refusal's number, or 0; and the channel's code with its rail and
-- its bits of P and N, which on a refusal are 0, on neither rail. For every case of what the code hands back, that answer.
use Rattle.std.specs.Prelude.{ℕ, ℤ, pos, Bool, false, Result, Ok, Err}
use Rattle.refusal.specs.Numbers.{none}
use Rattle.refusal.specs.declared.Refusal.{Refusal}
use Rattle.refusal.specs.Refusals.{number_of}
use Rattle.ads1299_codes.specs.declared.Rail.{Rail}
use Rattle.ads1299_codes.specs.declared.Rail.TheVariants.{Neither}
use Rattle.readings.specs.declared.Readout.{Readout}

pub record Reading : Type 0 where
  pub refusal : ℕ
  pub code : ℤ
  pub rail : Rail
  pub p : Bool
  pub n : Bool

-- gives the answer to a reading
abbrev pub reading_answer : Result Readout Refusal → Reading
reading_answer (Ok readout) = record { refusal = none; code = readout.code; rail = readout.rail; p = readout.p; n = readout.n }
reading_answer (Err refusal) = record { refusal = number_of refusal; code = pos 0; rail = Neither; p = false; n = false }
