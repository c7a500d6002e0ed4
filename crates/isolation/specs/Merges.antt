-- Merges of the parties' lists, and what is to be told about one party's requests in a merge.
use Rattle.std.specs.Prelude.{ℕ, ◌<◌, ◌≡◌, Bool, true, false, cond, ◌&&◌, eqb, leb, ltb, get_or}
use mathlib.Core.List.{List, [], ◌∷◌, ◌++◌, get_last_d}
use Rattle.cases.specs.Every.{any_of}
use Rattle.refusal.specs.First.{accepted}
use Rattle.ads1299_registers.specs.Addresses.{register_count, BIAS_SENSP, LOFF_FLIP}
use Rattle.ads1299.specs.declared.Converter.{Converter}
use Rattle.ads1299_fields.specs.Table.{Row, table}
use Rattle.ads1299_fields.specs.Names.{named}
use Rattle.ads1299_fields.specs.Places.{place, apart, bit_at}
use Rattle.ads1299_fields.specs.Layout.{same}
use Rattle.ads1299_settings.specs.Registers.{read_at}
use Rattle.ads1299_settings.specs.Settings.{Setting}
use Rattle.planner.specs.Submission.{Submission}
use Rattle.planner.specs.Refusals.{field_owner}
use Rattle.planner.specs.Settings.{settings}
use Rattle.planner.specs.Runs.{runs, in_runs}
use Rattle.planner.specs.Plan.{plan_writing}
use Rattle.isolation.specs.Reference.{first_cells}

-- gives the requests of one party, in their order
unfoldable pub from : ℕ → List Submission → List Submission
from party [] = []
from party (x ∷ l) = cond (eqb x.party party) (x ∷ from party l) (from party l)

-- gives what one party's requests were answered, of a list with one answer for each request
unfoldable pub answers_to {ℓ} : {A : Type ℓ} → ℕ → List Submission → List A → List A
answers_to party [] answers = []
answers_to party (x ∷ l) [] = []
answers_to party (x ∷ l) (answer ∷ answers) = cond (eqb x.party party) (answer ∷ answers_to party l answers) (answers_to party l answers)

-- a list for each party number: the administrator's, the tenants', and those of numbers that no party has
abbrev pub Lists : Type 0
Lists = ℕ → List Submission

-- a list is a merge of the parties' lists: it has each party's requests, all of them and in their order, and no other
abbrev pub Merge : Lists → List Submission → Type 0
Merge lists l = (party : ℕ) → from party l ≡ lists party

-- gives the parties' lists with one of them replaced
unfoldable pub replaced : Lists → ℕ → List Submission → Lists
replaced lists party l other = cond (eqb party other) l (lists other)

-- A list is had from the parties' lists by taking the head of a party's own list again and again, until nothing is left.
pub data Interleaving : Lists → List Submission → Type 0 where
  nothing_left : {lists : Lists} → ((party : ℕ) → lists party ≡ []) → Interleaving lists []
  take_head : {lists : Lists} {l : List Submission} (x : Submission) (tail : List Submission) → lists x.party ≡ x ∷ tail
      → Interleaving (replaced lists x.party tail) l → Interleaving lists (x ∷ l)

-- gives the values that settings made in channel m have for field f of channel n
unfoldable pub values_for : ℕ → List Setting → ℕ → ℕ → List ℕ
values_for m [] f n = []
values_for m (a ∷ rest) f n = cond (same a.field m f n) (a.value ∷ values_for m rest f n) (values_for m rest f n)

-- gives the values that accepted requests gave field f of channel n, of a list with its numbers
unfoldable pub accepted_values : ℕ → ℕ → List Submission → List ℕ → List ℕ
accepted_values f n [] numbers = []
accepted_values f n (x ∷ l) [] = []
accepted_values f n (x ∷ l) (number ∷ numbers) =
    cond (accepted number) (values_for x.request.channel (settings x.request) f n ++ accepted_values f n l numbers) (accepted_values f n l numbers)

-- gives the last value that a list's accepted requests gave the field, by their numbers, or its value in the first state
unfoldable pub last_accepted : Converter → ℕ → ℕ → List Submission → List ℕ → ℕ
last_accepted s f n l numbers = get_last_d (accepted_values f n l numbers) (first_cells s f n)

-- no other party's field has bit i of register r
abbrev pub Own : Converter → ℕ → ℕ → ℕ → Type 0
Own s party r i =
    (f n : ℕ) → named f n ≡ true
    → apart (place f n) (bit_at r i) ≡ false
    → field_owner s.owners f n ≡ party

-- register r has a bit for each channel, and so bits of several parties
abbrev pub spread : ℕ → Bool
spread r = any_of (λ (row : Row). ltb 0 row.bit_step && eqb row.register r) table

-- Registers 0D to 11 have a bit for each channel, and no other register has.
abbrev pub SpreadRegisters : Type 0
SpreadRegisters = (r : ℕ) → r < register_count → spread r ≡ (leb BIAS_SENSP r && leb r LOFF_FLIP)

-- two plans of one request with its number: no bytes where it is refused; else both write the request's runs, of two lists of registers,
-- which agree in every bit that no other party's field has, and wholly in each written register that has no bits of several parties
pub record Alike (s : Converter) (x : Submission) (number : ℕ) (first second : List ℕ) : Type 0 where
  pub one : List ℕ
  pub other : List ℕ
  pub first_is : first ≡ cond (accepted number) (plan_writing s x.request one) []
  pub second_is : second ≡ cond (accepted number) (plan_writing s x.request other) []
  pub own_bits : (r i : ℕ) → Own s x.party r i → read_at one (bit_at r i) ≡ read_at other (bit_at r i)
  pub own_registers : accepted number ≡ true → (r : ℕ) → in_runs (runs x.request) r ≡ true → spread r ≡ false → get_or one r 0 ≡ get_or other r 0
  pub same_plan : ((r : ℕ) → in_runs (runs x.request) r ≡ true → spread r ≡ false) → first ≡ second

-- The plans of a list of requests with their numbers are alike, one by one.
pub data AllAlike (s : Converter) : List Submission → List ℕ → List (List ℕ) → List (List ℕ) → Type 0 where
  no_plans : AllAlike s [] [] [] []
  more_plans : {x : Submission} {number : ℕ} {first second : List ℕ} {l : List Submission} {numbers : List ℕ} {firsts seconds : List (List ℕ)}
      → Alike s x number first second → AllAlike s l numbers firsts seconds
      → AllAlike s (x ∷ l) (number ∷ numbers) (first ∷ firsts) (second ∷ seconds)
