-- Fields of one channel that are set together, as a list; of two settings of one field the later one counts.
use Rattle.std.specs.Prelude.{Bool, cond, List, [], ◌∷◌, ℕ}
use Rattle.cases.specs.Every.{every, any_of}
use Rattle.ads1299_fields.specs.declared.Place.{Place}
use Rattle.ads1299_fields.specs.Places.{place, apart}
use Rattle.ads1299_fields.specs.Values.{settable}
use Rattle.ads1299_fields.specs.Layout.{same}
use Rattle.ads1299_settings.specs.Registers.{with_field}

-- a field, and the value that it is to have
pub record Setting : Type 0 where
  pub field : ℕ
  pub value : ℕ

-- gives the registers with each setting made in channel n
unfoldable pub with_settings : List ℕ → ℕ → List Setting → List ℕ
with_settings l n [] = l
with_settings l n (a ∷ rest) = with_settings (with_field l a.field n a.value) n rest

-- gives the value of each field and channel
abbrev pub Values : Type 0
Values = ℕ → ℕ → ℕ

-- gives the values with one setting made in channel n
abbrev pub with_value : Values → ℕ → Setting → Values
with_value values n a f m = cond (same a.field n f m) a.value (values f m)

-- gives the values with each setting made in channel n, which knows no register
unfoldable pub with_values : Values → ℕ → List Setting → Values
with_values values n [] = values
with_values values n (a ∷ rest) = with_values (with_value values n a) n rest

-- the registers can hold every setting in channel n, legal or not
abbrev pub all_settable : ℕ → List Setting → Bool
all_settable n given = every (λ (a : Setting). settable a.field n a.value) given

-- a setting made in channel n is of field f of channel m
abbrev pub any_sets : ℕ → List Setting → ℕ → ℕ → Bool
any_sets n given f m = any_of (λ (a : Setting). same a.field n f m) given

-- the place has no bit of a field that is set in channel n
abbrev pub all_apart : ℕ → List Setting → Place → Bool
all_apart n given j = every (λ (a : Setting). apart (place a.field n) j) given
