-- Numbers and bytes as text.
use Rattle.std.specs.Prelude.{ℕ, ◌+◌, ◌/◌, ◌%◌, cond, List, [], ◌∷◌, ◌++◌, ltb}

-- the blank, by its ASCII code
abbrev pub blank : ℕ
blank = 0x20

-- the character that ends a line
abbrev pub newline : ℕ
newline = 0x0A

-- gives the digit of a number below 10
abbrev pub digit : ℕ → ℕ
digit n = 0x30 + n

-- gives the hex digit of a number below 16; from 10 on an upper-case letter
abbrev pub hex_digit : ℕ → ℕ
hex_digit n = cond (ltb n 10) (digit n) (0x37 + n)

-- gives a number below 100 in decimal, without a leading zero
unfoldable pub decimal : ℕ → List ℕ
decimal n = cond (ltb n 10) (digit n ∷ []) (digit (n / 10) ∷ digit (n % 10) ∷ [])

-- gives a byte's two hex digits after a blank
unfoldable pub hex : ℕ → List ℕ
hex byte = blank ∷ hex_digit (byte / 16) ∷ hex_digit (byte % 16) ∷ []

-- gives bytes in hex, each after a blank
unfoldable pub hexes : List ℕ → List ℕ
hexes [] = []
hexes (byte ∷ bytes) = hex byte ++ hexes bytes
