-- A request's numbers that are staged one by one; the writer's answer and the buffer, case by case.
use mathlib.Core.Bool.{Bool, true, false, cond, ◌&&◌}
use mathlib.Core.List.{List, [], ◌++◌, append-nil, append_assoc}
use mathlib.Core.Path.{◌≡◌, refl, sym, ◌∙◌}
use Prim.Native.Nat.{ℕ, ◌+◌, ◌*◌, ◌≤◌, ◌<◌}
use native.Mathlib.Numerals.{add-one}
use native.Mathlib.Omega.{arith}
use borrow.Author.Tests.{eqb-false, le-leb, lt-leb, lt-ltb, le-ltb}
use lib.Dec.{leb}
use lib.ListN.{length, drop, get_or, length-append, drop_of_length-le}
use lib.Seq.{drop-cons}
use Rattle.refusal.specs.Numbers.{none, bad_value, no_room}
use Rattle.refusal.specs.First.{accepted}
use Rattle.splice.specs.Splice.{spliced}
use Rattle.leb128.specs.Numbers.{groups, largest}
use Rattle.leb128.specs.Encoding.{encoded}
use Rattle.leb128.specs.Series as series
use Rattle.leb128.proofs.RoundTrip.{round_trip}
use Rattle.request.specs.declared.Request.{Request}
use Rattle.request.specs.Answers.{Written}
use Rattle.request.specs.Requests.{request_bytes, writable}
use Rattle.request.specs.Writing.{write_refusal, written, buffer_after}

-- the numbers before place i may be written, and their bytes, with those of the numbers left, are all
pub record Halfway (numbers bytes : List ℕ) (i : ℕ) : Type 0 where
  pub judged : series.writable groups numbers ≡ series.writable groups (drop i numbers)
  pub same : bytes ++ series.series_bytes groups (drop i numbers) ≡ series.series_bytes groups numbers
  pub room : length bytes ≤ i * groups

pub begins : (numbers : List ℕ) → Halfway numbers [] 0
begins numbers = record { judged = refl; same = refl; room = omega arith }

module _ {numbers bytes : List ℕ} {i : ℕ} (so_far : Halfway numbers bytes i) where
  module _ (more : i < length numbers) where
    tested : series.writable groups numbers ≡ (leb (get_or numbers i 0) (largest groups) && series.writable groups (drop (i + 1) numbers))
    unfolding series.writable
    tested = so_far.judged ∙ rw (drop-cons numbers i 0 more, add-one)

    pub stops : largest groups < get_or numbers i 0 → series.writable groups numbers ≡ false
    stops h = tested ∙ rw (lt-leb (get_or numbers i 0) (largest groups) h)

    pub goes_on : get_or numbers i 0 ≤ largest groups → Halfway numbers (bytes ++ encoded groups (get_or numbers i 0)) (i + 1)
    unfolding series.series_bytes
    goes_on h =
        let size = ((round_trip groups (omega arith)).sized (get_or numbers i 0)).most in
        record {
          judged = tested ∙ rw (le-leb (get_or numbers i 0) (largest groups) h);
          same = rw (append_assoc, add-one) (rw (drop-cons numbers i 0 more) at so_far.same);
          room = omega (arith, so_far.room, length-append bytes (encoded groups (get_or numbers i 0)));
        }

  pub ends : length numbers ≤ i → (series.writable groups numbers ≡ true) × (bytes ≡ series.series_bytes groups numbers)
  unfolding series.series_bytes series.writable
  ends h = let e = drop_of_length-le numbers {i = i} h in (so_far.judged ∙ rw e, sym (append-nil bytes) ∙ (rw e at so_far.same))

-- what the answer of the staging says
pub staged_ok : (can : Bool) → none ≡ cond can none bad_value → can ≡ true
staged_ok true e = refl
staged_ok false e = absurd (omega (arith, e))

pub staged_err : (can : Bool) (number : ℕ) → accepted number ≡ false → number ≡ cond can none bad_value → (can ≡ false) × (number ≡ bad_value)
staged_err true number r e = absurd (eqb-false number none r e)
staged_err false number r e = (refl, e)

module _ (r : Request) (buffer : List ℕ) where
  abbrev pub Answers : Written → List ℕ → Type 0
  Answers answer after = (answer ≡ written r buffer) × (after ≡ buffer_after r buffer)

  pub too_large : writable r ≡ false → Answers (record { refusal = bad_value; used = 0 }) buffer
  unfolding written buffer_after write_refusal
  too_large w = (rw w, rw w)

  pub too_long : writable r ≡ true → length buffer < length (request_bytes r) → Answers (record { refusal = no_room; used = 0 }) buffer
  unfolding written buffer_after write_refusal
  too_long w h = let t = lt-ltb (length buffer) (length (request_bytes r)) h in (rw (w, t), rw (w, t))

  pub fits : writable r ≡ true → length (request_bytes r) ≤ length buffer
      → Answers (record { refusal = none; used = length (request_bytes r) }) (spliced buffer 0 (request_bytes r))
  unfolding written buffer_after write_refusal
  fits w h = let t = le-ltb (length buffer) (length (request_bytes r)) h in (rw (w, t), rw (w, t))
