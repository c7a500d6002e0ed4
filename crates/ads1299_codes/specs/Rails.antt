-- Whether a code sits at an end of the range (document 02, No. 3: on the rail).
use Rattle.std.specs.Prelude.{ℕ, Bool, false, cond, not, ◌&&◌, eqb, ℤ, pos, negsuc}
use Rattle.ads1299_codes.specs.Codes.{lowest, highest}
use Rattle.ads1299_codes.specs.declared.Rail.{Rail}
use Rattle.ads1299_codes.specs.declared.Rail.TheVariants.{Neither, Lowest, Highest}
use Rattle.ads1299_codes.specs.declared.Decoded.{Decoded}

-- tells whether two integers are equal
abbrev pub eq_z : ℤ → ℤ → Bool
eq_z (pos m) (pos n) = eqb m n
eq_z (pos m) (negsuc n) = false
eq_z (negsuc m) (pos n) = false
eq_z (negsuc m) (negsuc n) = eqb m n

-- gives the number that stands for a rail in other languages; document 02 leaves the numbers open
abbrev pub rail_number : Rail → ℕ
rail_number Neither = 0
rail_number Lowest = 1
rail_number Highest = 2

-- tells whether a rail stands for a code: Lowest and Highest for one code each, Neither for every other
unfoldable pub stands_for : Rail → ℤ → Bool
stands_for Neither z = not (eq_z z lowest) && not (eq_z z highest)
stands_for Lowest z = eq_z z lowest
stands_for Highest z = eq_z z highest

-- gives the rail of a code
unfoldable pub rail_of : ℤ → Rail
rail_of z = cond (stands_for Lowest z) Lowest (cond (stands_for Highest z) Highest Neither)

-- gives what decoding answers of a code: the code and its rail
unfoldable pub decoded : ℤ → Decoded
decoded z = record { code = z; rail = rail_of z }
