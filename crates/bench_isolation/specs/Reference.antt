-- The reference model of the bench (document 01: the chart): a cell for each field and number, 89 for each converter, and a step that knows
-- no register and no byte.
use Rattle.std.specs.Prelude.{ℕ, ◌≡◌, cond, List, [], ◌∷◌}
use Rattle.refusal.specs.First.{first_of, accepted}
use Rattle.ads1299_settings.specs.Settings.{Values, with_values}
use Rattle.planner.specs.Submission.{Submission}
use Rattle.planner.specs.Settings.{settings}
use Rattle.planner.specs.Unused.{numbered}
use Rattle.bench.specs.declared.Bench.{Bench}
use Rattle.bench_planner.specs.Fields.{bench_field}
use Rattle.bench_planner.specs.Refusals.{bench_refusals}

-- gives the answer to a request: the first refusal that applies, by the cells and else by the first bench, or 0
unfoldable pub reference_number : Bench → Values → Submission → ℕ
reference_number first cells x = first_of (bench_refusals first cells x)

-- gives the cells after a request: where it is accepted each cell that it sets takes its value, and no other cell changes
unfoldable pub cells_after : Bench → Values → Submission → Values
cells_after first cells x f n =
    cond (accepted (reference_number first cells x)) (with_values cells x.request.channel (settings x.request) f n) (cells f n)

-- gives the numbers that a list of requests is answered, from the cells as they stand
unfoldable pub numbers_from : Bench → Values → List Submission → List ℕ
numbers_from first cells [] = []
numbers_from first cells (x ∷ l) = reference_number first cells x ∷ numbers_from first (cells_after first cells x) l

-- gives the cells that a list of requests leaves, from the cells as they stand
unfoldable pub cells_from : Bench → Values → List Submission → Values
cells_from first cells [] = cells
cells_from first cells (x ∷ l) = cells_from first (cells_after first cells x) l

-- gives the reference model's numbers for a list of requests: at first each cell has the field's value on the first bench
abbrev pub reference_numbers : Bench → List Submission → List ℕ
reference_numbers first l = numbers_from first (bench_field first) l

-- gives the reference model's cells after a list of requests
abbrev pub reference_cells : Bench → List Submission → Values
reference_cells first l = cells_from first (bench_field first) l

-- The reference model looks at no value that a request's field does not use.
pub record UnusedByReference : Type 0 where
  pub same_number : (first : Bench) (cells : Values) (x : Submission) → reference_number first cells (numbered x) ≡ reference_number first cells x
  pub same_cells : (first : Bench) (cells : Values) (x : Submission) (f n : ℕ) → cells_after first cells (numbered x) f n ≡ cells_after first cells x f n
