-- Which values a field takes.
use Rattle.std.specs.Prelude.{Bool, not, ◌&&◌, ℕ, ◌^◌, ltb, eqb}
use Rattle.ads1299_fields.specs.Table.{row_of}
use Rattle.ads1299_fields.specs.Names.{is_field, named}

-- the value fits the field's width
unfoldable pub fits : ℕ → ℕ → Bool
fits f v = ltb v (2 ^ (row_of f).width)

-- a request may set the field to this value
unfoldable pub legal : ℕ → ℕ → Bool
legal f v = is_field f && fits f v && not (eqb v (row_of f).refused)

-- the registers can hold this value in field f of channel n, legal or not
unfoldable pub settable : ℕ → ℕ → ℕ → Bool
settable f n v = named f n && fits f v
