-- What is claimed of the flat form beyond the contracts.
use Rattle.std.specs.Prelude.{◌≡◌, true, Ok}
use Rattle.ads1299.specs.declared.Converter.{Converter}
use Rattle.flat.specs.declared.FlatConverter.{FlatConverter}
use Rattle.flat.specs.Flat.{flat}
use Rattle.flat.specs.States.{is_state, state_of, state_in}

-- States and the flat forms that stand for one match one to one: the way there and back loses nothing, from either side.
pub record RoundTrip : Type 0 where
  pub stands : (s : Converter) → is_state (flat s) ≡ true
  pub returns : (s : Converter) → state_of (flat s) ≡ s
  pub returns_flat : (f : FlatConverter) → is_state f ≡ true → flat (state_of f) ≡ f

-- Every state's flat form is taken, and gives that state.
abbrev pub ComesBack : Type 0
ComesBack = (s : Converter) → state_in (flat s) ≡ Ok s
