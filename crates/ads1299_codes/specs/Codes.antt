-- Conversion codes: their range, and two's complement in a word of 24 bits (document 01, "Samples and frames").
use Rattle.std.specs.Prelude.{ℕ, ◌-◌, ◌%◌, ◌^◌, Bool, true, cond, ◌&&◌, List, [], ◌∷◌, ltb, ℤ, pos, negsuc, neg_ℤ, ◌-ℤ◌}
use Rattle.std.specs.Int.Signed.{le_z}

-- gives how many words of 24 bits there are
abbrev pub word_count : ℕ
word_count = 2 ^ 24

-- gives the first word whose top bit is 1
abbrev pub sign_word : ℕ
sign_word = 2 ^ 23

-- gives the lowest code, -8,388,608
abbrev pub lowest : ℤ
lowest = neg_ℤ (pos sign_word)

-- gives the highest code, 8,388,607
abbrev pub highest : ℤ
highest = pos (sign_word - 1)

-- tells whether an integer is a code
unfoldable pub in_range : ℤ → Bool
in_range z = le_z lowest z && le_z z highest

-- tells whether every integer of a list is a code
unfoldable pub all_in_range : List ℤ → Bool
all_in_range [] = true
all_in_range (z ∷ zs) = in_range z && all_in_range zs

-- gives the low 24 bits of an integer in two's complement
unfoldable pub word_of : ℤ → ℕ
word_of (pos n) = n % word_count
word_of (negsuc n) = word_count - 1 - n % word_count

-- gives the code of a word of 24 bits in two's complement
unfoldable pub code_of : ℕ → ℤ
code_of w = cond (ltb w sign_word) (pos w) (pos w -ℤ pos word_count)
