-- Numbers of at most two groups, case by case: the definitions go group by group, over any number of groups; the code takes both at once.
use mathlib.Core.List.{List, [], ◌∷◌}
use mathlib.Core.Path.{◌≡◌, ◌∙◌}
use native.Mathlib.Omega.{arith}
use borrow.Author.Tests.{lt-ltb, le-ltb, le-leb, lt-leb}
use Prim.Native.Nat.{ℕ, ◌+◌, ◌-◌, ◌*◌, ◌/◌, ◌%◌, ◌≤◌, ◌<◌}
use lib.ListN.{length, drop, get_or, length-drop}
use lib.Seq.{get_or-drop}
use Rattle.refusal.specs.Numbers.{none, truncated, malformed, bad_value}
use Rattle.leb128.specs.Numbers.{base, groups, largest, found, refused}
use Rattle.leb128.specs.Encoding.{encoded, padded, encoded_array}
use Rattle.leb128.specs.Decoding.{decoded}
use Rattle.leb128.proofs.Groups.{decoded_none, decoded_last, decoded_more, join}

pub nothing : (l : List ℕ) → length l ≡ 0 → decoded groups l ≡ refused truncated
nothing l e = decoded_none 1 l e

pub alone : (l : List ℕ) → 0 < length l → get_or l 0 0 < base → decoded groups l ≡ found (get_or l 0 0) 1
alone l h s = decoded_last 1 l h s

-- a first group that another one follows, by what the second is
module _ (l : List ℕ) (some : 0 < length l) (follows : base ≤ get_or l 0 0) where
  pub missing : length l ≡ 1 → decoded groups l ≡ refused truncated
  missing e = decoded_more 1 l some follows ∙ rw (decoded_none 0 (drop 1 l) (length-drop 1 l ∙ omega arith))

  second : 1 < length l → get_or l 1 0 < base → decoded 1 (drop 1 l) ≡ found (get_or l 1 0) 1
  second h s =
      let e = get_or-drop 1 l 0 0 in
      let n = length-drop 1 l in
      decoded_last 0 (drop 1 l) (omega arith) (omega arith) ∙ rw e

  pub zero : 1 < length l → get_or l 1 0 ≡ 0 → decoded groups l ≡ refused malformed
  zero h z = decoded_more 1 l some follows ∙ rw (second h (omega arith), z)

  pub both : 1 < length l → get_or l 1 0 < base → 0 < get_or l 1 0 → decoded groups l ≡ found (get_or l 0 0 - base + base * get_or l 1 0) 2
  both h s z = decoded_more 1 l some follows ∙ rw (second h s) (join (get_or l 0 0 - base) (get_or l 1 0) 1 z)

  pub third : 1 < length l → base ≤ get_or l 1 0 → decoded groups l ≡ refused malformed
  unfolding decoded
  third h s =
      let e = get_or-drop 1 l 0 0 in
      let n = length-drop 1 l in
      decoded_more 1 l some follows ∙ rw (decoded_more 0 (drop 1 l) (omega arith) (omega arith))

-- a number as it is written, by how large it is
pub too_large : (n : ℕ) → largest groups < n → encoded_array n ≡ record { refusal = bad_value; bytes = padded groups []; used = 0 }
unfolding encoded_array
too_large n h = rw (lt-leb n (largest groups) h)

pub in_one : (n : ℕ) → n < base → encoded_array n ≡ record { refusal = none; bytes = padded groups (n ∷ []); used = 1 }
unfolding encoded_array encoded
in_one n h = rw (le-leb n (largest groups) (omega arith), lt-ltb n base h)

pub in_two : (n : ℕ) → base ≤ n → n ≤ largest groups
    → encoded_array n ≡ record { refusal = none; bytes = padded groups ((base + n % base) ∷ (n / base) ∷ []); used = 2 }
unfolding encoded_array encoded
in_two n b h = rw (le-leb n (largest groups) h, le-ltb n base b, lt-ltb (n / base) base (omega arith))
