-- What is claimed of a field's value in the registers.
use Rattle.std.specs.Prelude.{true, false, List, ◌≡◌, ℕ, ◌<◌, length, get_or, set}
use Rattle.bits.specs.Fields.{masked}
use Rattle.ads1299_registers.specs.Addresses.{register_count}
use Rattle.ads1299_registers.specs.Table.{masks}
use Rattle.ads1299_fields.specs.declared.Place.{Place}
use Rattle.ads1299_fields.specs.Names.{named}
use Rattle.ads1299_fields.specs.Places.{place, apart}
use Rattle.ads1299_fields.specs.Values.{settable}
use Rattle.ads1299_fields.specs.Layout.{same}
use Rattle.ads1299_settings.specs.Registers.{read_at, field_of, with_field, field_byte}
use Rattle.ads1299_settings.specs.Settings.{Setting, with_settings, with_values, all_settable, all_apart}

-- every register holds a byte
abbrev pub Bytes : List ℕ → Type 0
Bytes l = (i : ℕ) → get_or l i 0 < 256

-- the field reads as its value; every other field, and every place with no bit of it, in whatever register, reads as before; the
-- registers are as many, and bytes still; and one register write does it
pub record Written (l : List ℕ) (f n v : ℕ) : Type 0 where
  pub value : field_of (with_field l f n v) f n ≡ v
  pub fields : (g m : ℕ) → named g m ≡ true → same f n g m ≡ false → field_of (with_field l f n v) g m ≡ field_of l g m
  pub others : (j : Place) → apart (place f n) j ≡ true → read_at (with_field l f n v) j ≡ read_at l j
  pub size : length (with_field l f n v) ≡ length l
  pub bytes : Bytes l → Bytes (with_field l f n v)
  pub by_byte : with_field l f n v ≡ set l (place f n).register (field_byte l f n v)

-- A field that can be set is written so in any 24 registers, and nothing else changes.
abbrev pub FieldsWritten : Type 0
FieldsWritten = (l : List ℕ) (f n v : ℕ) → length l ≡ register_count → settable f n v ≡ true → Written l f n v

-- nothing is read and nothing is written
pub record Untouched (l : List ℕ) (f n v : ℕ) : Type 0 where
  pub value : field_of l f n ≡ 0
  pub registers : with_field l f n v ≡ l
  pub byte : field_byte l f n v ≡ 0

-- Where field and channel name nothing, nothing is read and nothing is written.
abbrev pub UnnamedUntouched : Type 0
UnnamedUntouched = (l : List ℕ) (f n v : ℕ) → named f n ≡ false → Untouched l f n v

-- each field reads as the settings leave it; every place with no bit of theirs, in whatever register, reads as before; the registers are
-- as many, and bytes still; and each new byte, written through its register's mask over the old one, arrives unchanged
pub record AllWritten (l : List ℕ) (n : ℕ) (given : List Setting) : Type 0 where
  pub fields : (f m : ℕ) → named f m ≡ true → field_of (with_settings l n given) f m ≡ with_values (field_of l) n given f m
  pub others : (j : Place) → all_apart n given j ≡ true → read_at (with_settings l n given) j ≡ read_at l j
  pub size : length (with_settings l n given) ≡ length l
  pub bytes : Bytes l → Bytes (with_settings l n given)
  pub passes : Bytes l → (r : ℕ)
      → masked (get_or l r 0) (get_or masks r 0) (get_or (with_settings l n given) r 0) ≡ get_or (with_settings l n given) r 0

-- Settings that can be made are written so in any 24 registers, and nothing else changes.
abbrev pub SettingsWritten : Type 0
SettingsWritten = (l : List ℕ) (n : ℕ) (given : List Setting) → length l ≡ register_count → all_settable n given ≡ true → AllWritten l n given
