-- A series of numbers, by the laws of one number.
use mathlib.Core.Bool.{true}
use mathlib.Core.List.{List, [], ◌∷◌, ◌++◌, append_assoc}
use mathlib.Core.Path.{◌≡◌, refl, sym, ap}
use Prim.Native.Nat.{ℕ, zero, suc}
use native.Mathlib.Nat.{suc-mul}
use native.Mathlib.Omega.{arith}
use borrow.Author.Tests.{eqb-true, eqb-false, leb-true, le-leb}
use lib.Dec.{ltb, leb}
use lib.ListN.{length, drop, length-append, length-drop}
use lib.Pow.{are_bytes}
use lib.Seq.{drop-append_seam, take-add}
use Rattle.refusal.specs.Numbers.{none}
use Rattle.refusal.specs.First.{accepted}
use Rattle.cases.proofs.Cases.{split, and_both}
use Rattle.leb128.specs.Answers.{Number}
use Rattle.leb128.specs.Numbers.{largest}
use Rattle.leb128.specs.Encoding.{encoded}
use Rattle.leb128.specs.Decoding.{decoded}
use Rattle.leb128.specs.Series.{Series, followed_by, series, series_bytes, writable}
use Rattle.leb128.specs.RoundTrip.{RoundTrip}
use Rattle.leb128.specs.SeriesRoundTrip.{Accepted, Counted, ReadsBack, WritesBack, SeriesRoundTrips}
use Rattle.leb128.proofs.RoundTrip.{round_trip}

-- a series that is accepted: its first number is, and those after it are
pub both_accepted : (number : Number) (rest : Series) → Accepted (followed_by number rest) → (number.refusal ≡ none) × Accepted rest
both_accepted number rest e =
    split (accepted number.refusal)
    (λ a. (eqb-true number.refusal none a, rw a at e))
    (λ a. absurd (eqb-false number.refusal none a (rw a at e)))

bytes_drop : (n : ℕ) (l : List ℕ) → are_bytes l ≡ true → are_bytes (drop n l) ≡ true
bytes_drop zero l e = e
bytes_drop (suc n) [] e = refl
bytes_drop (suc n) (b ∷ l) e = bytes_drop n l (and_both (ltb b 256) (are_bytes l) e).1

many : (k count : ℕ) (bytes : List ℕ) → length (series k count bytes).numbers ≡ count
unfolding series
many k zero bytes = refl
many k (suc count) bytes = ap suc (many k count (drop (decoded k bytes).used bytes))

module _ (k : ℕ) (one : RoundTrip k) where
  counted : (count : ℕ) (bytes : List ℕ) → Counted k count bytes (series k count bytes)
  unfolding series
  counted zero bytes = record { least = λ e. omega arith; most = omega arith; within = omega arith }
  counted (suc count) bytes =
      let n = decoded k bytes in
      let c = one.counted bytes in
      let after = drop n.used bytes in
      let rest = counted count after in
      record {
        least = λ e. let b = both_accepted n (series k count after) e in omega (arith, c.some b.0, rest.least b.1);
        most = omega (arith, suc-mul count k, c.most, rest.most);
        within = omega (arith, c.within, rest.within, length-drop n.used bytes);
      }

  reads_back_lem : (numbers rest : List ℕ) → writable k numbers ≡ true → ReadsBack k numbers (series k (length numbers) (series_bytes k numbers ++ rest))
  unfolding series series_bytes writable
  reads_back_lem [] rest h = record { accepted = refl; same = refl; count = refl }
  reads_back_lem (n ∷ ns) rest h =
      let b = and_both (leb n (largest k)) (writable k ns) h in
      let ih = reads_back_lem ns rest b.1 in
      let e = one.reads_back n (series_bytes k ns ++ rest) (leb-true n (largest k) b.0) in
      rw (append_assoc (encoded k n) (series_bytes k ns) rest, e, drop-append_seam)
      (record { accepted = ih.accepted; same = rw ih.same; count = rw (ih.count, length-append) })

  writes_back_lem : (count : ℕ) (bytes : List ℕ) → are_bytes bytes ≡ true → Accepted (series k count bytes) → WritesBack k bytes (series k count bytes)
  unfolding series series_bytes writable
  writes_back_lem zero bytes h e = record { small = refl; same = refl }
  writes_back_lem (suc count) bytes h e =
      let n = decoded k bytes in
      let after = drop n.used bytes in
      let b = both_accepted n (series k count after) e in
      let w = one.writes_back bytes h b.0 in
      let ih = writes_back_lem count after (bytes_drop n.used bytes h) b.1 in
      record {
        small = rw (le-leb n.value (largest k) w.small) ih.small;
        same = rw (w.same, ih.same) (sym (take-add n.used (series k count after).used bytes));
      }

pub series_round_trip : SeriesRoundTrips
series_round_trip k h =
    let one = round_trip k h in
    record { many = many k; counted = counted k one; reads_back = reads_back_lem k one; writes_back = writes_back_lem k one }
