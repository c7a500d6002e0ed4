-- What the refusals' numbers are good for: none of them is success, and a number tells which refusal it is.
use Rattle.std.specs.Prelude.{false, ◌≡◌}
use Rattle.refusal.specs.declared.Refusal.{Refusal}
use Rattle.refusal.specs.First.{accepted}
use Rattle.refusal.specs.Refusals.{number_of}

-- No refusal has the number of success, and no two refusals have the same number.
pub record NumbersTell : Type 0 where
  pub refused : (r : Refusal) → accepted (number_of r) ≡ false
  pub apart : (r q : Refusal) → number_of r ≡ number_of q → r ≡ q
