-- What is claimed of the flat form beyond the contracts.
use Rattle.std.specs.Prelude.{◌≡◌, true, Ok}
use Rattle.ads7953.specs.declared.Ads7953.{Ads7953}
use Rattle.flat_ads7953.specs.declared.FlatAds7953.{FlatAds7953}
use Rattle.flat_ads7953.specs.Flat.{flat_part, is_part, part_of, part_in}

-- States and the flat forms that stand for one match one to one: the way there and back loses nothing, from either side.
pub record RoundTrip : Type 0 where
  pub stands : (s : Ads7953) → is_part (flat_part s) ≡ true
  pub returns : (s : Ads7953) → part_of (flat_part s) ≡ s
  pub returns_flat : (f : FlatAds7953) → is_part f ≡ true → flat_part (part_of f) ≡ f

-- Every state's flat form is taken, and gives that state.
abbrev pub ComesBack : Type 0
ComesBack = (s : Ads7953) → part_in (flat_part s) ≡ Ok s
