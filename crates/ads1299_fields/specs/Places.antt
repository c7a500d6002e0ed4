-- Where a field lies in the registers.
use Rattle.std.specs.Prelude.{Bool, cond, not, ◌||◌, ℕ, ◌+◌, ◌*◌, ◌-◌, leb, eqb}
use Rattle.ads1299_fields.specs.declared.Entry.{Entry}
use Rattle.ads1299_fields.specs.declared.Place.{Place}
use Rattle.ads1299_fields.specs.Table.{Row, row_of}
use Rattle.ads1299_fields.specs.Names.{named}

-- gives the place of a row's field, that many channels after channel 1
abbrev pub place_of : Row → ℕ → Place
place_of r steps =
    record {
      register = r.register + r.register_step * steps;
      bit = r.bit + r.bit_step * steps;
      width = r.width;
    }

-- gives the same of a row as the code holds it
abbrev pub place_in : Entry → ℕ → Place
place_in e steps =
    record {
      register = e.register + e.register_step * steps;
      bit = e.bit + e.bit_step * steps;
      width = e.width;
    }

-- no bits of no register
abbrev pub nowhere : Place
nowhere = record { register = 0; bit = 0; width = 0 }

-- gives the place of field f of channel n; a shared field, with channel 0, takes no step
unfoldable pub place : ℕ → ℕ → Place
place f n = cond (named f n) (place_of (row_of f) (n - 1)) nowhere

-- gives the place of one bit
abbrev pub bit_at : ℕ → ℕ → Place
bit_at r i = record { register = r; bit = i; width = 1 }

-- two places have no bit in common
unfoldable pub apart : Place → Place → Bool
apart k j = not (eqb j.register k.register) || leb (k.width + k.bit) j.bit || leb (j.width + j.bit) k.bit
