-- What reading and writing answer, as document 01 writes it ("Refusal numbers"): a refusal's number, or 0, and the rest beside it, which
-- is 0 on a refusal.
use Rattle.std.specs.Prelude.{ℕ, List}

-- of reading: the number and the count of its bytes
pub record Number : Type 0 where
  pub refusal : ℕ
  pub value : ℕ
  pub used : ℕ

-- of writing: the number's bytes, of which the first used count; the others are 0
pub record Encoded : Type 0 where
  pub refusal : ℕ
  pub bytes : List ℕ
  pub used : ℕ
