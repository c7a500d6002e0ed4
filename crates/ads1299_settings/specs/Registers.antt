-- A field's value in the registers, read and replaced.
use Rattle.std.specs.Prelude.{cond, List, ℕ, get_or, set}
use Rattle.bits.specs.Fields.{field, inserted}
use Rattle.ads1299_fields.specs.declared.Place.{Place}
use Rattle.ads1299_fields.specs.Places.{place}
use Rattle.ads1299_fields.specs.Values.{settable}

-- gives the value at a place
unfoldable pub read_at : List ℕ → Place → ℕ
read_at l k = field (get_or l k.register 0) k.bit k.width

-- gives the place's register as it stands, with v for what the place has
abbrev pub new_byte : List ℕ → Place → ℕ → ℕ
new_byte l k v = inserted (get_or l k.register 0) k.bit k.width v

-- gives the registers with v at a place
unfoldable pub write_at : List ℕ → Place → ℕ → List ℕ
write_at l k v = set l k.register (new_byte l k v)

-- gives the value of field f of channel n; 0 where these name nothing
unfoldable pub field_of : List ℕ → ℕ → ℕ → ℕ
field_of l f n = read_at l (place f n)

-- gives the registers with v in field f of channel n; as they stand where it cannot be set so
unfoldable pub with_field : List ℕ → ℕ → ℕ → ℕ → List ℕ
with_field l f n v = cond (settable f n v) (write_at l (place f n) v) l

-- gives the register of field f of channel n with v in the field; 0 where it cannot be set so
unfoldable pub field_byte : List ℕ → ℕ → ℕ → ℕ → ℕ
field_byte l f n v = cond (settable f n v) (new_byte l (place f n) v) 0
