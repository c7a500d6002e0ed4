-- What is claimed of where the fields lie: within bytes, and apart.
use Rattle.std.specs.Prelude.{Bool, true, false, ◌&&◌, ◌≡◌, ℕ, ◌+◌, ◌≤◌, ◌<◌, eqb}
use Rattle.ads1299_registers.specs.Addresses.{register_count, ID}
use Rattle.ads1299_fields.specs.declared.Place.{Place}
use Rattle.ads1299_fields.specs.Names.{named}
use Rattle.ads1299_fields.specs.Places.{place, apart, bit_at}

-- field f of channel n is field g of channel m
abbrev pub same : ℕ → ℕ → ℕ → ℕ → Bool
same f n g m = eqb f g && eqb n m

-- a field has bit i of register r
abbrev pub InField : ℕ → ℕ → Type 0
InField r i = (f : ℕ) × (n : ℕ) × (named f n ≡ true) × (apart (place f n) (bit_at r i) ≡ false)

-- no field has bit i of register r
abbrev pub Free : ℕ → ℕ → Type 0
Free r i = (f n : ℕ) → named f n ≡ true → apart (place f n) (bit_at r i) ≡ true

-- a place lies within the byte of a register after ID
pub record Inside (k : Place) : Type 0 where
  pub after_id : ID < k.register
  pub in_list : k.register < register_count
  pub in_byte : k.width + k.bit ≤ 8

-- Every field lies within a byte, no two fields have a bit in common, and so a bit is in one field at most.
pub record Layout : Type 0 where
  pub inside : (f n : ℕ) → named f n ≡ true → Inside (place f n)
  pub separate : (f n g m : ℕ) → named f n ≡ true → named g m ≡ true → same f n g m ≡ false → apart (place f n) (place g m) ≡ true
  pub one_field : (f n g m r i : ℕ) → named f n ≡ true → named g m ≡ true
      → apart (place f n) (bit_at r i) ≡ false → apart (place g m) (bit_at r i) ≡ false → same f n g m ≡ true
