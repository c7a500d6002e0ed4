-- Reading undoes writing and writing undoes reading: by induction on the number of groups, one group at a time.
use mathlib.Core.Bool.{true}
use mathlib.Core.List.{List, [], ◌∷◌, ◌++◌}
use mathlib.Core.Path.{◌≡◌, refl, ap}
use Prim.Native.Nat.{ℕ, zero, suc, ◌+◌, ◌-◌, ◌*◌, ◌/◌, ◌%◌, ◌^◌, ◌≤◌, ◌<◌}
use native.Mathlib.Nat.{pow-succ', pow-le-pow_right, not-suc-le-zero}
use native.Mathlib.Numerals.{add-one}
use native.Mathlib.Omega.{arith}
use borrow.Author.Tests.{ltb-true, ltb-false, lt-ltb, eq-eqb, ne_eqb}
use lib.Dec.{ltb, eqb}
use lib.ListN.{length}
use lib.Pow.{are_bytes}
use Rattle.refusal.specs.Numbers.{none}
use Rattle.refusal.specs.First.{accepted}
use Rattle.leb128.specs.Numbers.{base, largest, found}
use Rattle.leb128.specs.Encoding.{encoded}
use Rattle.leb128.specs.Decoding.{decoded}
use Rattle.leb128.specs.RoundTrip.{Counted, ReadsBack, WritesBack, RoundTrips}
use Rattle.cases.proofs.Cases.{split, and_both}
use Rattle.leb128.proofs.Groups.{encoded_last, encoded_more, decoded_last, decoded_more, join, parts}

-- at most the largest is below the power
below : (k : ℕ) {n : ℕ} → n ≤ largest k → n < base ^ k
below k {n} h = omega (arith, pow-le-pow_right {n = base} (omega arith) {i = 0} {j = k} (omega arith))

positive : (k n : ℕ) → n < base ^ k → 0 < n → 0 < k
positive zero n h p = absurd (omega arith)
positive (suc k) n h p = omega arith

length_encoded : (k n : ℕ) → length (encoded k n) ≤ k
unfolding encoded
length_encoded zero n = omega arith
length_encoded (suc k) n = split (ltb n base) (λ a. rw a (omega arith)) (λ a. rw a (omega (arith, length_encoded k (n / base))))

bytes_encoded : (k n : ℕ) → are_bytes (encoded k n) ≡ true
unfolding encoded
bytes_encoded zero n = refl
bytes_encoded (suc k) n =
    split (ltb n base) (λ a. rw (a, lt-ltb n 256 (omega (arith, ltb-true n base a))))
    (λ a. rw (a, lt-ltb (base + n % base) 256 (omega arith), bytes_encoded k (n / base)))

some_encoded : (k n : ℕ) → 1 ≤ length (encoded (suc k) n)
unfolding encoded
some_encoded k n = split (ltb n base) (λ a. rw a (omega arith)) (λ a. rw a (omega arith))

counted : (k : ℕ) (bytes : List ℕ) → Counted k bytes (decoded k bytes)
unfolding decoded
counted zero bytes = record { some = λ e. absurd (omega arith); most = omega arith; within = omega arith }
counted (suc k) [] = record { some = λ e. absurd (omega arith); most = omega arith; within = omega arith }
counted (suc k) (b ∷ bs) =
    let rest = counted k bs in
    split (ltb b base) (λ a. rw a (record { some = λ e. omega arith; most = omega arith; within = omega arith }))
    (λ a.
    split (accepted (decoded k bs).refusal)
    (λ r.
    split (eqb (decoded k bs).value 0)
    (λ z. rw (a, r, z) (record { some = λ e. absurd (omega arith); most = omega arith; within = omega arith }))
    (λ z. rw (a, r, z) (record { some = λ e. omega arith; most = omega arith; within = omega arith })))
    (λ r. rw (a, r) (record { some = rest.some; most = omega arith; within = omega arith })))

-- the groups after the lowest hold what is left of a number
left_small : (k n : ℕ) → n ≤ largest (suc k) → n / base ≤ largest k
left_small k n h = let lt = below (suc k) h in omega (arith, pow-succ' base k)

whole : (n : ℕ) → base + n % base - base + base * (n / base) ≡ n
whole n = omega arith

-- one more group
reads_more : (k n : ℕ) (rest : List ℕ) → base ≤ n → decoded k (encoded k (n / base) ++ rest) ≡ found (n / base) (length (encoded k (n / base)))
    → decoded (suc k) (encoded (suc k) n ++ rest) ≡ found n (length (encoded (suc k) n))
reads_more k n rest l e =
    rw (encoded_more k n l, decoded_more k ((base + n % base) ∷ encoded k (n / base) ++ rest) (omega arith) (omega arith), e, join (base + n % base - base) (n / base) (length (encoded k (n / base))) (omega arith), whole n, add-one)

reads_back_lem : (k : ℕ) → 0 < k → ReadsBack k
reads_back_lem zero h n rest le = absurd (not-suc-le-zero h)
reads_back_lem (suc k) h n rest le =
    split (ltb n base)
    (λ a. let s = ltb-true n base a in rw (encoded_last k n s) (decoded_last k (n ∷ rest) (omega arith) s))
    (λ a.
    let l = ltb-false n base a in
    let small = left_small k n le in
    reads_more k n rest l (reads_back_lem k (positive k (n / base) (below k small) (omega arith)) (n / base) rest small))

writes_back_lem : (k : ℕ) (bytes : List ℕ) → are_bytes bytes ≡ true → (decoded k bytes).refusal ≡ none → WritesBack k bytes (decoded k bytes)
unfolding decoded
writes_back_lem zero bytes ab e = absurd (omega arith)
writes_back_lem (suc k) [] ab e = absurd (omega arith)
writes_back_lem (suc k) (b ∷ bs) ab e =
    let ih = writes_back_lem k bs in
    let power = pow-succ' base k in
    let y = and_both (ltb b 256) (are_bytes bs) ab in
    let lt = ltb-true b 256 y.0 in
    split (ltb b base)
    (λ a.
    let s = ltb-true b base a in
    rw a (record { small = omega (arith, pow-le-pow_right {n = base} (omega arith) {i = 0} {j = k} (omega arith)); same = encoded_last k b s }))
    (λ a.
    let l = ltb-false b base a in
    let p = parts (b - base) (decoded k bs) (rw a at e) in
    let w = ih y.1 p.0 in
    let n = b - base + base * (decoded k bs).value in
    let high : n / base ≡ (decoded k bs).value = omega arith in
    let low : base + n % base ≡ b = omega arith in
    rw (a, eq-eqb (decoded k bs).refusal none p.0, ne_eqb (decoded k bs).value 0 (λ z. omega arith))
    (record {
      small = omega arith;
      same = rw (encoded_more k n (omega arith), low, high, add-one) (ap (λ (l : List ℕ). b ∷ l) w.same);
    }))

pub round_trip : RoundTrips
round_trip zero h = absurd (not-suc-le-zero h)
round_trip (suc k) h =
    record {
      sized = λ n. record { some = some_encoded k n; most = length_encoded (suc k) n; bytes = bytes_encoded (suc k) n };
      counted = counted (suc k);
      reads_back = reads_back_lem (suc k) h;
      writes_back = writes_back_lem (suc k);
    }
