-- What a list answers, as document 02 writes it: a refusal's number, or 0, and the plan's length, which is 0 on a refusal. For every case of
-- what the code hands back, that answer.
use Rattle.std.specs.Prelude.{ℕ, Result, Ok, Err}
use Rattle.refusal.specs.Numbers.{none}
use Rattle.refusal.specs.declared.Refusal.{Refusal}
use Rattle.refusal.specs.Refusals.{number_of}

-- the answer to a list
pub record ListPlanned : Type 0 where
  pub refusal : ℕ
  pub length : ℕ

-- gives the answer to a list
abbrev pub list_answer : Result ℕ Refusal → ListPlanned
list_answer (Ok length) = record { refusal = none; length = length }
list_answer (Err refusal) = record { refusal = number_of refusal; length = 0 }
