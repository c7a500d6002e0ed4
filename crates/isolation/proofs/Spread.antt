-- Which registers have a bit for each channel: a test that is computed over all of them.
use Prim.Native.Nat.{ℕ}
use mathlib.Core.Path.{◌≡◌, refl, sym}
use mathlib.Core.Bool.{Bool, true, false, cond, not, ◌&&◌}
use borrow.Author.Tests.{not-true}
use lib.Dec.{leb}
use Rattle.cases.proofs.Below.{below_at}
use Rattle.ads1299_registers.specs.Addresses.{register_count, BIAS_SENSP, LOFF_FLIP}
use Rattle.ads1299_fields.specs.Table.{table}
use Rattle.isolation.specs.Merges.{spread, SpreadRegisters}

abbrev in_range : ℕ → Bool
in_range r = leb BIAS_SENSP r && leb r LOFF_FLIP

abbrev agrees : ℕ → Bool
agrees r = cond (spread r) (in_range r) (not (in_range r))

same : (a b : Bool) → cond a b (not b) ≡ true → a ≡ b
same true b e = sym e
same false b e = sym (not-true b e)

pub spread_registers : SpreadRegisters
unfolding table
spread_registers r lt = same (spread r) (in_range r) (below_at register_count agrees refl r lt)
