-- A field of a byte: the w bits from bit p on. Read, replaced, and a write through a mask.
use Rattle.std.specs.Prelude.{ℕ, ◌+◌, ◌-◌, ◌*◌, ◌/◌, ◌%◌, ◌^◌, Bool, ◌&&◌, leb, ltb, eqb}
use Rattle.std.specs.Int.Bits.{bit_and}

-- gives the value of the field
unfoldable pub field : ℕ → ℕ → ℕ → ℕ
field b p w = b / 2 ^ p % 2 ^ w

-- tells whether a number's bit at a place, counted from 0, is 1
unfoldable pub bit : ℕ → ℕ → Bool
bit number place = eqb (field number place 1) 1

-- gives the byte with v in the field: what stands above it, v, what stands below it
unfoldable pub inserted : ℕ → ℕ → ℕ → ℕ → ℕ
inserted b p w v = b / 2 ^ (w + p) * 2 ^ (w + p) + (v * 2 ^ p + b % 2 ^ p)

-- the field lies within a byte, and v within the field
unfoldable pub insertable : ℕ → ℕ → ℕ → Bool
insertable p w v = leb (w + p) 8 && ltb v (2 ^ w)

-- gives the byte after a write: the mask's bits are new, the others stay
unfoldable pub masked : ℕ → ℕ → ℕ → ℕ
masked old mask new = bit_and old (255 - mask) + bit_and new mask
