-- A test of four values in a list, place by place.
use mathlib.Core.Path.{◌≡◌, refl}
use mathlib.Core.Bool.{Bool}
use mathlib.Core.List.{List, [], ◌∷◌}
use native.Mathlib.Omega.{arith}
use lib.ListN.{length, get_or}
use Rattle.std.specs.List.{list_all}
use Rattle.lines.specs.Lines.{converter_count, every_converter}

pub all_is_every : {A : Type 0} (test : A → Bool) (l : List A) (d : A) → length l ≡ converter_count
    → list_all test l ≡ every_converter (λ k. test (get_or l k d))
all_is_every test [] d h = absurd (omega (arith, h))
all_is_every test (a ∷ []) d h = absurd (omega (arith, h))
all_is_every test (a ∷ b ∷ []) d h = absurd (omega (arith, h))
all_is_every test (a ∷ b ∷ c ∷ []) d h = absurd (omega (arith, h))
all_is_every test (a ∷ b ∷ c ∷ e ∷ []) d h = refl
all_is_every test (a ∷ b ∷ c ∷ e ∷ f ∷ l) d h = absurd (omega (arith, h))
