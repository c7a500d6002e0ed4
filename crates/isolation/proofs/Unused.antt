-- The reference model goes by a request's settings and by the tests alone, and neither looks at unused values.
use Prim.Native.Nat.{ℕ}
use mathlib.Core.Path.{◌≡◌}
use Rattle.ads1299.specs.declared.Converter.{Converter}
use Rattle.ads1299_settings.specs.Settings.{Values}
use Rattle.request.specs.Requests.{numbers_of, request_of}
use Rattle.planner.specs.Submission.{Submission}
use Rattle.planner.specs.Unused.{numbered}
use Rattle.planner.proofs.Unused.{unused_values}
use Rattle.isolation.specs.Reference.{cells_after, UnusedByReference}

same_cells : (first : Converter) (cells : Values) (x : Submission) (f n : ℕ) → cells_after first cells (numbered x) f n ≡ cells_after first cells x f n
unfolding cells_after request_of numbers_of
same_cells first cells x f n = rw (unused_values.same_refusal first cells x, unused_values.same_settings x.request)

pub unused_by_reference : UnusedByReference
unused_by_reference = record { same_number = unused_values.same_refusal; same_cells = same_cells }
