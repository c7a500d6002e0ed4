-- A number as bytes: the lowest group first, the top bit set where another group follows, no group more than needed.
use Rattle.std.specs.Prelude.{cond, List, [], ◌∷◌, ◌++◌, ℕ, zero, suc, ◌+◌, ◌-◌, ◌/◌, ◌%◌, ltb, leb, length, replicate}
use Rattle.refusal.specs.Numbers.{none, bad_value}
use Rattle.leb128.specs.Answers.{Encoded}
use Rattle.leb128.specs.Numbers.{base, groups, largest}

-- gives the bytes of a number, in at most k groups
unfoldable pub encoded : ℕ → ℕ → List ℕ
encoded zero n = []
encoded (suc k) n = cond (ltb n base) (n ∷ []) ((base + n % base) ∷ encoded k (n / base))

-- gives the list with 0 after it, up to a length
unfoldable pub padded : ℕ → List ℕ → List ℕ
padded size l = l ++ replicate (size - length l) 0

-- gives a number's bytes in an array of the most groups, 0 past them; refusal 7 for a number too large
unfoldable pub encoded_array : ℕ → Encoded
encoded_array n =
    cond (leb n (largest groups))
    (record { refusal = none; bytes = padded groups (encoded groups n); used = length (encoded groups n) })
    (record { refusal = bad_value; bytes = padded groups []; used = 0 })
