-- Laws of words, their bytes, and lists of words.
use Prim.Native.Nat.{ℕ, zero, suc, ◌+◌, ◌-◌, ◌*◌, ◌/◌, ◌%◌, ◌<◌, ◌^◌}
use mathlib.Core.Path.{◌≡◌, refl, ◌∙◌}
use mathlib.Core.List.{List, [], ◌∷◌}
use native.Mathlib.Nat.{add-zero, zero-add}
use native.Mathlib.Omega.{arith}
use borrow.Author.Tests.{ltb-true, ltb-false}
use lib.Dec.{ltb}
use lib.ListN.{length, get_or, length-append, get_or-append}
use lib.Seq.{get_or-append-add}
use Rattle.ads1299_codes.specs.Codes.{word_count}
use Rattle.ads1299_codes.specs.Words.{word, word_bytes, word_at, joined}
use Rattle.cases.proofs.Cases.{split}

pub word_small : (high middle low : ℕ) → high < 256 → middle < 256 → low < 256 → word high middle low < word_count
unfolding word
word_small high middle low h m l = omega arith

pub word_bytes_lem : (w : ℕ) → word_at (word_bytes w) 0 ≡ w % word_count
unfolding word_at word word_bytes
word_bytes_lem w = omega arith

pub bytes_word : (high middle low : ℕ) → high < 256 → middle < 256 → low < 256 → word_bytes (word high middle low) ≡ high ∷ middle ∷ low ∷ []
unfolding word word_bytes
bytes_word high middle low h m l =
    let w = high * 2 ^ 16 + middle * 2 ^ 8 + low in
    let eh : w / 2 ^ 16 % 2 ^ 8 ≡ high = omega arith in
    let em : w / 2 ^ 8 % 2 ^ 8 ≡ middle = omega arith in
    let el : w % 2 ^ 8 ≡ low = omega arith in
    simp (eh, em, el)

-- any three bytes are those of their word
pub three_bytes : (bytes : List ℕ) → length bytes ≡ 3 → ((k : ℕ) → k < 3 → get_or bytes k 0 < 256) → word_bytes (word_at bytes 0) ≡ bytes
unfolding word_at
three_bytes [] e small = absurd (omega arith)
three_bytes (a ∷ []) e small = absurd (omega arith)
three_bytes (a ∷ b ∷ []) e small = absurd (omega arith)
three_bytes (a ∷ b ∷ c ∷ []) e small = bytes_word a b c (small 0 (omega arith)) (small 1 (omega arith)) (small 2 (omega arith))
three_bytes (a ∷ b ∷ c ∷ d ∷ bytes) e small = absurd (omega arith)

bytes_lt : (w i : ℕ) → get_or (word_bytes w) i 0 < 256
unfolding word_bytes
bytes_lt w zero = omega arith
bytes_lt w (suc zero) = omega arith
bytes_lt w (suc (suc zero)) = omega arith
bytes_lt w (suc (suc (suc i))) = omega arith

-- words with the same three bytes
pub same_word : (xs ys : List ℕ) (i j : ℕ) → ((k : ℕ) → k < 3 → get_or xs (3 * i + k) 0 ≡ get_or ys (3 * j + k) 0) → word_at xs i ≡ word_at ys j
unfolding word_at
same_word xs ys i j same =
    let h : get_or xs (3 * i) 0 ≡ get_or ys (3 * j) 0 = simp add-zero at (same 0 (omega arith)) in
    rw (h, same 1 (omega arith), same 2 (omega arith))

pub length_bytes : (w : ℕ) → length (word_bytes w) ≡ 3
unfolding word_bytes
length_bytes w = refl

module _ (words : ℕ → ℕ) where
  pub length_joined : (count : ℕ) → length (joined words count) ≡ 3 * count
  unfolding joined
  length_joined zero = refl
  length_joined (suc m) = length-append (joined words m) _ ∙ omega (arith, length_joined m, length_bytes (words m))

  -- a byte of the last word, and one of those before
  last : (m i : ℕ) → get_or (joined words (suc m)) (3 * m + i) 0 ≡ get_or (word_bytes (words m)) i 0
  unfolding joined
  last m i = rw (← length_joined m) (get_or-append-add (joined words m) _ i 0)

  before : (m i : ℕ) → i < 3 * m → get_or (joined words (suc m)) i 0 ≡ get_or (joined words m) i 0
  unfolding joined
  before m i h = get_or-append (joined words m) _ 0 i (omega (arith, length_joined m))

  pub joined_lt : (count i : ℕ) → get_or (joined words count) i 0 < 256
  unfolding joined
  joined_lt zero i = omega arith
  joined_lt (suc m) i =
      split (ltb i (3 * m))
      (λ t. rw (before m i (ltb-true i (3 * m) t)) (joined_lt m i))
      (λ t. let l = ltb-false i (3 * m) t in let e : i ≡ 3 * m + (i - 3 * m) = omega arith in rw (e, last m (i - 3 * m)) (bytes_lt (words m) (i - 3 * m)))

  pub word_joined : (count i : ℕ) → i < count → word_at (joined words count) i ≡ words i % word_count
  word_joined zero i h = absurd (omega arith)
  word_joined (suc m) i h =
      split (ltb i m)
      (λ t. let l = ltb-true i m t in same_word _ _ i i (λ k h. before m (3 * i + k) (omega arith)) ∙ word_joined m i l)
      (λ t. let l = ltb-false i m t in let e : i ≡ m = omega arith in rw e (same_word _ _ m 0 (λ k h. rw zero-add (last m k)) ∙ word_bytes_lem (words m)))
