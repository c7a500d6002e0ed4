-- What the reader and the writer answer, as document 01 writes it ("Refusal numbers"): a refusal's number, or 0, and the rest beside it,
-- which is 0 on a refusal.
use Rattle.std.specs.Prelude.{ℕ}
use Rattle.request.specs.declared.Request.{Request}

-- of reading: the request and the count of its bytes
pub record Parsed : Type 0 where
  pub refusal : ℕ
  pub request : Request
  pub used : ℕ

-- of writing: the count of the bytes written
pub record Written : Type 0 where
  pub refusal : ℕ
  pub used : ℕ
