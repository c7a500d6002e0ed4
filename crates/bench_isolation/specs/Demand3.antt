-- Demand 3 on the bench (document 02, No. 4): what isolation.Demand3 says of one converter, over all four. A cell goes by the number that a
-- request names it with; bits of no field, and all else, are each converter's own. A plan is for the converter that its request names, and a
-- second bench takes each byte on that converter's line. No rise of a select line is needed between plans for different converters.
use Rattle.std.specs.Prelude.{ℕ, ◌<◌, ◌≡◌, true, cond, None}
use mathlib.Core.List.{List, flatten}
use Rattle.ads1299.specs.State.{with_registers, with_output}
use Rattle.ads1299_fields.specs.Places.{bit_at}
use Rattle.ads1299_fields.specs.Layout.{Free}
use Rattle.ads1299_settings.specs.Registers.{read_at}
use Rattle.planner.specs.Submission.{Submission}
use Rattle.planner.specs.Refusals.{field_owner}
use Rattle.isolation.specs.Merges.{Lists, Merge, answers_to}
use Rattle.lines.specs.Lines.{converter_count}
use Rattle.bench.specs.declared.Bench.{Bench}
use Rattle.bench.specs.Bench.{at, bench_owners}
use Rattle.bench.specs.Formed.{FormedBench}
use Rattle.bench.specs.Run.{bench_after}
use Rattle.bench_planner.specs.Fields.{bench_named, bench_field}
use Rattle.bench_isolation.specs.Reference.{reference_numbers, reference_cells}
use Rattle.bench_isolation.specs.Lists.{numbers, plans, end, touched}
use Rattle.bench_isolation.specs.Merges.{last_accepted, AllAlike}

-- a list of requests from a bench: what isolation.Demand3.FollowsReference says, with bits of no field and all else converter by converter; a
-- converter's output is emptied by an accepted request of its own alone, and the second bench is sent each byte for its converter
pub record FollowsReference (b : Bench) (l : List Submission) : Type 0 where
  pub reference_numbers_lem : numbers b l ≡ reference_numbers b l
  pub fields : (f n : ℕ) → bench_named f n ≡ true → bench_field (end b l) f n ≡ reference_cells b l f n
  pub free_bits : (k r i : ℕ) → k < converter_count → Free r i → read_at (at (end b l) k).registers (bit_at r i) ≡ read_at (at b k).registers (bit_at r i)
  pub all_else : (k : ℕ) → k < converter_count
      → at (end b l) k ≡ with_output (with_registers (at b k) (at (end b l) k).registers) (cond (touched k l (numbers b l)) None (at b k).output)
  pub formed : FormedBench (end b l)
  pub sent : bench_after b (flatten (plans b l)) ≡ end b l

-- two merges of the same lists, from one bench: what isolation.Demand3.Agree says, with the owners of the bench's 32 channels
pub record Agree (b : Bench) (lists : Lists) (l m : List Submission) : Type 0 where
  pub same_numbers : (p : ℕ) → answers_to p l (numbers b l) ≡ answers_to p m (numbers b m)
  pub own_numbers : (p : ℕ) → answers_to p l (numbers b l) ≡ reference_numbers b (lists p)
  pub same_end : end b l ≡ end b m
  pub owners_last : (f n : ℕ) → bench_named f n ≡ true
      → bench_field (end b l) f n
      ≡ last_accepted b f n (lists (field_owner (bench_owners b) f n)) (answers_to (field_owner (bench_owners b) f n) l (numbers b l))
  pub owners_cell : (f n : ℕ) → bench_named f n ≡ true
      → bench_field (end b l) f n ≡ reference_cells b (lists (field_owner (bench_owners b) f n)) f n
  pub same_plans : (p : ℕ) → AllAlike b (lists p) (answers_to p l (numbers b l)) (answers_to p l (plans b l)) (answers_to p m (plans b m))

-- Every list from every bench follows the reference model: also from a bench that 13 refuses, or with converters half through a command.
abbrev pub AllFollowReference : Type 0
AllFollowReference = (b : Bench) → FormedBench b → (l : List Submission) → FollowsReference b l

-- Any two merges of any lists agree, from every bench.
abbrev pub MergesAgree : Type 0
MergesAgree =
    (b : Bench) → FormedBench b → (lists : Lists) (l m : List Submission) → Merge lists l → Merge lists m → Agree b lists l m
