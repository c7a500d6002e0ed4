-- An output that is in its frame stays in it.
use Rattle.std.specs.Prelude.{ℕ, Option, None, Some}
use Prim.Native.Nat.{◌+◌}
use mathlib.Core.Path.{◌≡◌, refl}
use mathlib.Core.Bool.{Bool, true}
use native.Mathlib.Omega.{arith}
use borrow.Author.Tests.{le-leb, ltb-true}
use lib.Dec.{ltb}
use Rattle.cases.proofs.Cases.{either}
use Rattle.ads1299_serial.specs.Output.{valid_place, advanced}

pub advanced_valid : (o : Option ℕ) (again : Bool) → valid_place o ≡ true → valid_place (advanced o again) ≡ true
advanced_valid None again e = refl
advanced_valid (Some place) again e =
    let P : Option ℕ → Type 0 = λ o. valid_place o ≡ true in
    either P (ltb place 26) (λ t. le-leb (place + 1) 26 (omega (arith, ltb-true place 26 t))) (λ t. either P again (λ u. refl) (λ u. refl))
