-- A series that is read number by number, and the request that its numbers are.
use mathlib.Core.List.{List, [], ◌∷◌, ◌++◌, append-nil, append_assoc}
use mathlib.Core.Path.{◌≡◌, refl, sym, ap, ◌∙◌}
use Prim.Native.Nat.{ℕ, zero, suc, ◌+◌, ◌-◌, ◌≤◌, ◌<◌}
use native.Mathlib.Nat.{zero-add, add-zero, add_assoc}
use native.Mathlib.Omega.{arith}
use borrow.Author.Tests.{eq-eqb, ne_eqb}
use lib.Dec.{eqb}
use lib.ListN.{length, take, drop, set, length-append, length-drop}
use Rattle.std.proofs.lemmas.List.{take_more_set}
use lib.Seq.{drop-drop}
use Rattle.refusal.specs.Numbers.{none}
use Rattle.refusal.specs.First.{first_of}
use Rattle.ads1299_fields.specs.Names.{whole_channel}
use Rattle.cases.proofs.Cases.{split}
use Rattle.leb128.specs.Answers.{Number}
use Rattle.leb128.specs.Numbers.{groups}
use Rattle.leb128.specs.Decoding.{decoded}
use Rattle.leb128.specs.Series.{followed_by, series}
use Rattle.leb128.proofs.RoundTrip.{round_trip}
use Rattle.leb128.proofs.Series.{series_round_trip}
use Rattle.request.specs.Requests.{most_values, fewest_numbers, most_numbers, value_count, request_of}
use Rattle.request.specs.Reading.{numbers_in, numbers_read, read_refusal, refused, parsed}

-- the numbers that were read so far, and the series of those left, are the whole
pub record Halfway (count : ℕ) (bytes numbers : List ℕ) (used i : ℕ) : Type 0 where
  pub within : used ≤ length bytes
  pub many : length numbers ≡ i
  pub judged : first_of (series groups count bytes).refusals ≡ first_of (series groups (count - i) (drop used bytes)).refusals
  pub same : (series groups count bytes).numbers ≡ numbers ++ (series groups (count - i) (drop used bytes)).numbers
  pub counted : (series groups count bytes).used ≡ used + (series groups (count - i) (drop used bytes)).used

pub begins : (count : ℕ) (bytes : List ℕ) → Halfway count bytes [] 0 0
begins count bytes = let e : count - 0 ≡ count = omega arith in
    record { within = omega arith; many = refl; judged = rw e refl; same = rw e refl; counted = rw (e, zero-add) refl }

-- one number more: the loop is at place i
module _ {count : ℕ} {bytes numbers : List ℕ} {used i : ℕ} (so_far : Halfway count bytes numbers used i) (more : i < count) (number : Number) (is : number ≡ decoded groups (drop used bytes)) where
  next : series groups (count - i) (drop used bytes) ≡ followed_by number (series groups (count - (i + 1)) (drop (used + number.used) bytes))
  unfolding series
  next = let e : count - i ≡ suc (count - (i + 1)) = omega arith in rw (e, ← is, drop-drop)

  pub stops : (number.refusal ≡ none → ⊥) → number.refusal ≡ first_of (series groups count bytes).refusals
  stops h = simp (so_far.judged, next, ne_eqb number.refusal none h)

  pub within_more : used + number.used ≤ length bytes
  within_more = rw is (omega (arith, so_far.within, length-drop used bytes, ((round_trip groups (omega arith)).counted (drop used bytes)).within))

  pub goes_on : number.refusal ≡ none → Halfway count bytes (numbers ++ number.value ∷ []) (used + number.used) (i + 1)
  goes_on h =
      record {
        within = within_more;
        many = omega (arith, length-append numbers (number.value ∷ []), so_far.many);
        judged = so_far.judged ∙ rw (next, eq-eqb number.refusal none h);
        same = so_far.same ∙ rw (next, append_assoc);
        counted = so_far.counted ∙ rw (next, add_assoc);
      }

pub ends : {count : ℕ} {bytes numbers : List ℕ} {used i : ℕ} → Halfway count bytes numbers used i → count ≤ i
    → (none ≡ first_of (series groups count bytes).refusals) × ((numbers ≡ (series groups count bytes).numbers) × (used ≡ (series groups count bytes).used))
unfolding series
ends {count} {bytes} {numbers} {used} {i} so_far h = let e : count - i ≡ 0 = omega arith in
    (sym (so_far.judged ∙ rw e), (sym (so_far.same ∙ rw e (append-nil numbers)), sym (so_far.counted ∙ rw e (add-zero used))))

-- the numbers so far are those before a place of an array, in which the next one is set there
pub stored : {count : ℕ} {bytes : List ℕ} {used i : ℕ} (numbers : List ℕ) → i < length numbers → Halfway count bytes (take i numbers) used i → i < count
    → (number : Number) → number ≡ decoded groups (drop used bytes) → number.refusal ≡ none
    → Halfway count bytes (take (i + 1) (set numbers i number.value)) (used + number.used) (i + 1)
stored {i = i} numbers within so_far more number is ok = rw (take_more_set numbers i number.value within) (goes_on so_far more number is ok)

pub few_values : (f : ℕ) → (1 ≤ value_count f) × (value_count f ≤ most_values)
few_values f = split (eqb f whole_channel) (λ a. rw a (omega arith, omega arith)) (λ a. rw a (omega arith, omega arith))

pub numbers_between : (bytes : List ℕ) → (fewest_numbers ≤ numbers_in bytes) × (numbers_in bytes ≤ most_numbers)
unfolding numbers_in
numbers_between bytes = let b = few_values (decoded groups bytes).value in (omega arith, omega arith)

-- The reader's answer, by what the numbers come to. A field that is refused is the first refusal of all.
module _ (bytes : List ℕ) where
  first_refused : (count : ℕ) → 0 < count → ((decoded groups bytes).refusal ≡ none → ⊥) → first_of (series groups count bytes).refusals ≡ (decoded groups bytes).refusal
  unfolding series
  first_refused zero more h = absurd (omega arith)
  first_refused (suc count) more h = rw (ne_eqb (decoded groups bytes).refusal none h)

  pub series_refused : (read_refusal bytes ≡ none → ⊥) → parsed bytes ≡ refused (read_refusal bytes)
  unfolding parsed
  series_refused h = rw (ne_eqb (read_refusal bytes) none h)

  pub field_refused : ((decoded groups bytes).refusal ≡ none → ⊥) → parsed bytes ≡ refused (decoded groups bytes).refusal
  unfolding read_refusal numbers_read
  field_refused h =
      let e : read_refusal bytes ≡ (decoded groups bytes).refusal = first_refused (numbers_in bytes) (omega (arith, (numbers_between bytes).0)) h in
      series_refused (λ z. h (sym e ∙ z)) ∙ ap refused e

  pub series_found : read_refusal bytes ≡ none → parsed bytes ≡ record { refusal = none; request = request_of (numbers_read bytes).numbers; used = (numbers_read bytes).used }
  unfolding parsed
  series_found h = rw (eq-eqb (read_refusal bytes) none h)

  pub numbers_many : length (numbers_read bytes).numbers ≡ numbers_in bytes
  unfolding numbers_read
  numbers_many = (series_round_trip groups (omega arith)).many (numbers_in bytes) bytes

  pub counting : (value used count : ℕ) → record { refusal = none; value = value; used = used } ≡ decoded groups bytes → count ≡ value_count value → 2 + count ≡ numbers_in bytes
  unfolding numbers_in
  counting value used count is counted = rw (← is, counted)
