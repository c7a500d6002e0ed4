-- Words of 24 bits as three bytes, high byte first.
use Rattle.std.specs.Prelude.{ℕ, zero, suc, ◌+◌, ◌*◌, ◌/◌, ◌%◌, ◌^◌, List, [], ◌∷◌, ◌++◌, get_or}

-- how many bytes a word has
abbrev pub word_length : ℕ
word_length = 3

-- gives the word that three bytes are
unfoldable pub word : ℕ → ℕ → ℕ → ℕ
word high middle low = high * 2 ^ 16 + middle * 2 ^ 8 + low

-- gives the three bytes of a word
unfoldable pub word_bytes : ℕ → List ℕ
word_bytes w = w / 2 ^ 16 % 2 ^ 8 ∷ w / 2 ^ 8 % 2 ^ 8 ∷ w % 2 ^ 8 ∷ []

-- gives word i of a list of bytes, where missing bytes count as 0
unfoldable pub word_at : List ℕ → ℕ → ℕ
word_at bytes i = word (get_or bytes (word_length * i) 0) (get_or bytes (word_length * i + 1) 0) (get_or bytes (word_length * i + 2) 0)

-- gives the bytes of the words from word 0 up to a count
unfoldable pub joined : (ℕ → ℕ) → ℕ → List ℕ
joined words zero = []
joined words (suc count) = joined words count ++ word_bytes (words count)
