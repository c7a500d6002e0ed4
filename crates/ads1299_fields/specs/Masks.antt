-- The fields against the registers' writable masks (document 01, "Registers").
use Rattle.std.specs.Prelude.{true, ◌≡◌, ℕ, ◌<◌, get_or}
use Rattle.bits.specs.Fields.{bit}
use Rattle.bits.specs.Laws.{Covers}
use Rattle.ads1299_registers.specs.Addresses.{register_count, GPIO}
use Rattle.ads1299_registers.specs.Table.{masks}
use Rattle.ads1299_fields.specs.Names.{named}
use Rattle.ads1299_fields.specs.Places.{place}
use Rattle.ads1299_fields.specs.Layout.{InField}

-- Every field lies inside its register's mask.
abbrev pub InsideMasks : Type 0
InsideMasks = (f n : ℕ) → named f n ≡ true → Covers (get_or masks (place f n).register 0) (place f n).bit (place f n).width

-- Every bit of a mask is in a field, but those of GPIO, which no request sets.
abbrev pub FillsMasks : Type 0
FillsMasks = (r i : ℕ) → r < register_count → i < 8 → (r ≡ GPIO → ⊥) → bit (get_or masks r 0) i ≡ true → InField r i
