-- What a writer has done.
use Rattle.std.specs.Prelude.{ℕ, ◌+◌, ◌≡◌, List, length}
use Rattle.splice.specs.Splice.{spliced}
use Rattle.console.specs.declared.Writer.{Writer}

-- the text lies in the same buffer, from the place on, and the next place is after it
pub record Wrote (before after : Writer) (text : List ℕ) : Type 0 where
  pub same : after.buffer.ghost_name ≡ before.buffer.ghost_name
  pub place : after.place ≡ before.place + length text
  pub buffer : after.buffer.now ≡ spliced before.buffer.now before.place text
