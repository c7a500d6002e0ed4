-- What an answer of writing says of the number and its bytes.
use mathlib.Core.Bool.{false}
use mathlib.Core.List.{List, []}
use mathlib.Core.Path.{◌≡◌, sym, ap, ◌∙◌}
use Prim.Native.Nat.{ℕ, ◌≤◌, ◌<◌}
use native.Mathlib.Omega.{arith}
use borrow.Author.Tests.{leb-true, leb-false, le-leb, eqb-false}
use lib.Dec.{leb}
use lib.ListN.{length, take}
use lib.Seq.{take-append_seam}
use Rattle.refusal.specs.Numbers.{none, bad_value}
use Rattle.refusal.specs.First.{accepted}
use Rattle.cases.proofs.Cases.{split}
use Rattle.leb128.specs.Answers.{Encoded}
use Rattle.leb128.specs.Numbers.{groups, largest}
use Rattle.leb128.specs.Encoding.{encoded, padded, encoded_array}
use Rattle.leb128.proofs.RoundTrip.{round_trip}

-- the number is not too large, and the bytes are its encoding
pub encoded_ok : (n : ℕ) (items : List ℕ) → record { refusal = none; bytes = padded groups items; used = length items } ≡ encoded_array n
    → (n ≤ largest groups) × (items ≡ encoded groups n)
unfolding encoded_array padded
encoded_ok n items e =
    split (leb n (largest groups))
    (λ a.
    let f = rw a at e in
    let used = ap (λ (x : Encoded). x.used) f in
    let bytes = ap (λ (x : Encoded). take x.used x.bytes) f in
    (leb-true _ _ a, sym (take-append_seam items _) ∙ bytes ∙ take-append_seam (encoded groups n) _))
    (λ a. let f = ap (λ (x : Encoded). x.refusal) (rw a at e) in absurd (omega (arith, f)))

-- a number that is not too large, as it is written in an array of the most groups
pub array_of : (n : ℕ) → n ≤ largest groups → encoded_array n ≡ record { refusal = none; bytes = padded groups (encoded groups n); used = length (encoded groups n) }
unfolding encoded_array
array_of n h = rw (le-leb n (largest groups) h)

-- the same of an array, of which so many bytes count
pub array_ok : (n : ℕ) (bytes : List ℕ) (used : ℕ) → record { refusal = none; bytes = bytes; used = used } ≡ encoded_array n
    → (n ≤ largest groups) × ((used ≡ length (encoded groups n)) × (take used bytes ≡ encoded groups n))
unfolding encoded_array padded
array_ok n bytes used e =
    split (leb n (largest groups))
    (λ a.
    let f = rw a at e in
    (leb-true _ _ a, (ap (λ (x : Encoded). x.used) f, ap (λ (x : Encoded). take x.used x.bytes) f ∙ take-append_seam (encoded groups n) _)))
    (λ a. let f = ap (λ (x : Encoded). x.refusal) (rw a at e) in absurd (omega (arith, f)))

-- so many are within it
pub array_within : (n : ℕ) (bytes : List ℕ) (used : ℕ) → record { refusal = none; bytes = bytes; used = used } ≡ encoded_array n → used ≤ groups
array_within n bytes used e = omega (arith, (array_ok n bytes used e).1.0, ((round_trip groups (omega arith)).sized n).most)

-- the number is too large
pub encoded_err : (n number : ℕ) → accepted number ≡ false → record { refusal = number; bytes = padded groups []; used = 0 } ≡ encoded_array n
    → (largest groups < n) × (number ≡ bad_value)
unfolding encoded_array
encoded_err n number r e =
    split (leb n (largest groups)) (λ a. absurd (eqb-false number none r (ap (λ (x : Encoded). x.refusal) (rw a at e))))
    (λ a. (leb-false _ _ a, ap (λ (x : Encoded). x.refusal) (rw a at e)))
