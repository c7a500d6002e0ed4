-- The reference model (document 01: the chart): a cell for each field, and a step that knows no register and no byte.
use Rattle.std.specs.Prelude.{ℕ, cond, List, [], ◌∷◌, ◌≡◌}
use Rattle.refusal.specs.First.{accepted}
use Rattle.ads1299.specs.declared.Converter.{Converter}
use Rattle.ads1299_settings.specs.Registers.{field_of}
use Rattle.ads1299_settings.specs.Settings.{Values, with_values}
use Rattle.planner.specs.Submission.{Submission}
use Rattle.planner.specs.Settings.{settings}
use Rattle.planner.specs.Refusals.{judged}
use Rattle.planner.specs.Unused.{numbered}

-- gives the answer to a request: the first refusal that applies, by the cells and else by the first state, or 0
abbrev pub reference_number : Converter → Values → Submission → ℕ
reference_number first cells x = judged first cells x

-- gives the cells after a request: where it is accepted each cell that it sets takes its value, and no other cell changes
unfoldable pub cells_after : Converter → Values → Submission → Values
cells_after first cells x f n =
    cond (accepted (reference_number first cells x)) (with_values cells x.request.channel (settings x.request) f n) (cells f n)

-- gives the numbers that a list of requests is answered, from the cells as they stand
unfoldable pub numbers_from : Converter → Values → List Submission → List ℕ
numbers_from first cells [] = []
numbers_from first cells (x ∷ l) = reference_number first cells x ∷ numbers_from first (cells_after first cells x) l

-- gives the cells that a list of requests leaves, from the cells as they stand
unfoldable pub cells_from : Converter → Values → List Submission → Values
cells_from first cells [] = cells
cells_from first cells (x ∷ l) = cells_from first (cells_after first cells x) l

-- gives the cells at first: each field's value in the first state
abbrev pub first_cells : Converter → Values
first_cells first = field_of first.registers

-- gives the reference model's numbers for a list of requests
abbrev pub reference_numbers : Converter → List Submission → List ℕ
reference_numbers first l = numbers_from first (first_cells first) l

-- gives the reference model's cells after a list of requests
abbrev pub reference_cells : Converter → List Submission → Values
reference_cells first l = cells_from first (first_cells first) l

-- The reference model looks at no value that a request's field does not use.
pub record UnusedByReference : Type 0 where
  pub same_number : (first : Converter) (cells : Values) (x : Submission) → reference_number first cells (numbered x) ≡ reference_number first cells x
  pub same_cells : (first : Converter) (cells : Values) (x : Submission) (f n : ℕ) → cells_after first cells (numbered x) f n ≡ cells_after first cells x f n
