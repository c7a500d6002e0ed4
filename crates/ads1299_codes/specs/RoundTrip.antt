-- The claim that codes and three bytes determine each other.
use Rattle.std.specs.Prelude.{ℕ, ◌<◌, ◌≡◌, true, [], ◌∷◌, ℤ}
use Rattle.ads1299_codes.specs.Codes.{word_count, in_range, word_of, code_of}
use Rattle.ads1299_codes.specs.Words.{word, word_bytes, word_at}

-- Codes and words determine each other, words and three bytes too, and so codes and three bytes.
pub record Codec : Type 0 where
  pub word_lt : (z : ℤ) → word_of z < word_count
  pub code_range : (w : ℕ) → w < word_count → in_range (code_of w) ≡ true
  pub code_word : (z : ℤ) → in_range z ≡ true → code_of (word_of z) ≡ z
  pub word_code : (w : ℕ) → w < word_count → word_of (code_of w) ≡ w
  pub word_bytes_lem : (w : ℕ) → w < word_count → word_at (word_bytes w) 0 ≡ w
  pub bytes_word : (high middle low : ℕ) → high < 256 → middle < 256 → low < 256
      → word_bytes (word high middle low) ≡ high ∷ middle ∷ low ∷ []
  pub code_bytes : (z : ℤ) → in_range z ≡ true → code_of (word_at (word_bytes (word_of z)) 0) ≡ z
  pub bytes_code : (high middle low : ℕ) → high < 256 → middle < 256 → low < 256
      → word_bytes (word_of (code_of (word high middle low))) ≡ high ∷ middle ∷ low ∷ []
