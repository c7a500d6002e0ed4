-- The reference model goes by a request's settings and by the tests alone, and neither looks at unused values.
use Prim.Native.Nat.{ℕ}
use mathlib.Core.Path.{◌≡◌}
use Rattle.ads1299_settings.specs.Settings.{Values}
use Rattle.request.specs.Requests.{numbers_of, request_of}
use Rattle.planner.specs.Submission.{Submission}
use Rattle.planner.specs.Unused.{numbered}
use Rattle.planner.proofs.Unused as planning
use Rattle.bench.specs.declared.Bench.{Bench}
use Rattle.bench_planner.proofs.Unused.{unused_values}
use Rattle.bench_isolation.specs.Reference.{reference_number, cells_after, UnusedByReference}

same_number : (first : Bench) (cells : Values) (x : Submission) → reference_number first cells (numbered x) ≡ reference_number first cells x
unfolding reference_number
same_number first cells x = unused_values.same_refusal first cells x

same_cells : (first : Bench) (cells : Values) (x : Submission) (f n : ℕ) → cells_after first cells (numbered x) f n ≡ cells_after first cells x f n
unfolding cells_after request_of numbers_of
same_cells first cells x f n = rw (same_number first cells x, (planning.unused_values).same_settings x.request)

pub unused_by_reference : UnusedByReference
unused_by_reference = record { same_number = same_number; same_cells = same_cells }
