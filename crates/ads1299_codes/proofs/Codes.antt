-- Laws of codes and their words: the round trips, and what 32-bit arithmetic gives.
use Prim.Native.Nat.{ℕ, zero, suc, ◌+◌, ◌-◌, ◌%◌, ◌^◌, ◌<◌, ◌≤◌}
use mathlib.Core.Path.{◌≡◌, refl, ◌∙◌}
use mathlib.Core.Bool.{true}
use mathlib.Core.List.{List, [], ◌∷◌}
use native.Mathlib.Nat.{lt_of_lt_of_le, mod-lt}
use native.Mathlib.Omega.{arith}
use borrow.Author.Tests.{leb-true, le-leb, lt-ltb, le-ltb, ltb-true, ltb-false}
use lib.Dec.{ltb}
use lib.ListN.{get_or}
use lib.IntN.{ℤ, pos, negsuc, ◌-ℤ◌}
use mir.Syntax.{w32}
use mir.Val.{to_z, of_z, SFits}
use mir.Facts.{to_z_pos, to_z-of_z}
use Rattle.cases.proofs.Cases.{split, and_both}
use Rattle.ads1299_codes.specs.Codes.{word_count, sign_word, in_range, all_in_range, word_of, code_of}

-- a word whose top bit is 1
high : (w : ℕ) → w < word_count → pos w -ℤ pos word_count ≡ negsuc (word_count - 1 - w)
high w h = let e : word_count - suc w ≡ word_count - 1 - w = omega arith in simp (lt-ltb w word_count h, e)

pub word_lt : (z : ℤ) → word_of z < word_count
unfolding word_of
word_lt (pos n) = omega arith
word_lt (negsuc n) = omega arith

pub code_word : (z : ℤ) → in_range z ≡ true → code_of (word_of z) ≡ z
unfolding in_range word_of code_of
code_word (pos n) r =
    let l = leb-true n (sign_word - 1) r in
    let e : n % word_count ≡ n = omega arith in
    simp (e, lt-ltb n sign_word (omega arith))
code_word (negsuc n) r =
    let l = leb-true n (sign_word - 1) (and_both _ _ r).0 in
    let w = word_count - 1 - n % word_count in
    let e : word_count - 1 - w ≡ n = omega arith in
    simp (le-ltb w sign_word (omega arith), high w (omega arith), e)

pub word_code : (w : ℕ) → w < word_count → word_of (code_of w) ≡ w
unfolding word_of code_of
word_code w h =
    split (ltb w sign_word)
    (λ t. simp t (omega arith))
    (λ t. simp (t, high w h) (omega arith))

pub code_range : (w : ℕ) → w < word_count → in_range (code_of w) ≡ true
unfolding in_range code_of
code_range w h =
    split (ltb w sign_word)
    (λ t. let l = ltb-true w sign_word t in simp t (le-leb w (sign_word - 1) (omega arith)))
    (λ t. let l = ltb-false w sign_word t in simp (t, high w h, le-leb (word_count - 1 - w) (sign_word - 1) (omega arith)))

pub all_at : (zs : List ℤ) → all_in_range zs ≡ true → (k : ℕ) → in_range (get_or zs k (pos 0)) ≡ true
unfolding all_in_range in_range
all_at [] e k = refl
all_at (z ∷ zs) e zero = (and_both (in_range z) (all_in_range zs) e).0
all_at (z ∷ zs) e (suc k) = all_at zs (and_both (in_range z) (all_in_range zs) e).1 k

-- the sign word added within 24 bits and taken off again
offset : (w : ℕ) → w < word_count → pos ((w + sign_word) % word_count) -ℤ pos sign_word ≡ code_of w
unfolding code_of
offset w h =
    split (ltb w sign_word)
    (λ t.
    let l = ltb-true w sign_word t in
    let m : (w + sign_word) % word_count ≡ w + sign_word = omega arith in
    let e : w + sign_word - sign_word ≡ w = omega arith in
    simp (t, m, le-ltb (w + sign_word) sign_word (omega arith), e))
    (λ t.
    let l = ltb-false w sign_word t in
    let m : (w + sign_word) % word_count ≡ w - sign_word = omega arith in
    let e : sign_word - suc (w - sign_word) ≡ word_count - 1 - w = omega arith in
    simp (t, m, lt-ltb (w - sign_word) sign_word (omega arith), high w h, e))

-- a number less another, in 32-bit arithmetic
less_fits : (m k : ℕ) → m < 2 ^ 31 → k < 2 ^ 31 → SFits w32 (pos m -ℤ pos k)
less_fits m zero hm hk = record { sfits = omega arith }
less_fits m (suc k) hm hk =
    split (ltb m (suc k))
    (λ t. simp t (record { sfits = omega arith }))
    (λ t. simp t (record { sfits = omega arith }))

pub remainder_fits : (x n k : ℕ) → zero < n → n ≤ 2 ^ 31 → k < 2 ^ 31 → SFits w32 (to_z w32 (x % n) -ℤ pos k)
remainder_fits x n k positive small hk =
    let below = lt_of_lt_of_le (mod-lt x positive) small in
    rw (to_z_pos w32 below) (less_fits (x % n) k below hk)

-- the code of a word in 32-bit arithmetic
pub offset_code : (w : ℕ) → w < word_count → to_z w32 (of_z w32 (to_z w32 ((w + sign_word) % word_count) -ℤ pos sign_word)) ≡ code_of w
offset_code w h =
    to_z-of_z (remainder_fits (w + sign_word) word_count sign_word (omega arith) (omega arith) (omega arith))
    ∙ rw (to_z_pos w32 {n = (w + sign_word) % word_count} (omega arith)) (offset w h)

-- the word of a code in 32-bit arithmetic
pub cast_word : (z : ℤ) → SFits w32 z → of_z w32 z % word_count ≡ word_of z
unfolding word_of
cast_word (pos n) s = refl
cast_word (negsuc n) s = omega (arith, s.sfits)
