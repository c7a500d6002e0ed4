-- The fields lie inside the masks and fill them: each by one test that is computed over the whole table.
use mathlib.Core.Path.{◌≡◌, refl}
use mathlib.Core.Bool.{Bool, true, not, ◌||◌}
use Prim.Native.Nat.{ℕ, ◌-◌, ◌^◌}
use lib.Dec.{eqb}
use lib.ListN.{get_or}
use borrow.Author.Tests.{eqb-true, ne_eqb, not-true}
use Rattle.bits.specs.Fields.{field, bit}
use Rattle.cases.specs.Below.{below}
use Rattle.cases.proofs.Below.{below_at}
use Rattle.ads1299_registers.specs.Addresses.{register_count, GPIO}
use Rattle.ads1299_registers.specs.Table.{masks}
use Rattle.ads1299_fields.specs.Table.{table, row_of}
use Rattle.ads1299_fields.specs.Names.{named, every_name}
use Rattle.ads1299_fields.specs.Places.{place, apart, bit_at}
use Rattle.ads1299_fields.specs.Masks.{InsideMasks, FillsMasks}
use Rattle.ads1299_fields.proofs.Names.{every_at, every_find}

-- the mask of a field's register has every bit of the field
abbrev covered : ℕ → ℕ → Bool
covered f n = eqb (field (get_or masks (place f n).register 0) (place f n).bit (place f n).width) (2 ^ (place f n).width - 1)

all_covered : every_name covered ≡ true
unfolding every_name named place row_of table masks field
all_covered = refl

pub inside_masks : InsideMasks
inside_masks f n k = eqb-true _ _ (every_at covered all_covered f n k)

-- a bit of a mask that is 1 is not apart from every field
abbrev filled : ℕ → ℕ → Bool
filled r i = not (bit (get_or masks r 0) i) || not (every_name (λ f n. apart (place f n) (bit_at r i)))

all_filled : below register_count (λ r. eqb r GPIO || below 8 (filled r)) ≡ true
unfolding every_name named place apart row_of table masks field bit
all_filled = refl

pub fills_masks : FillsMasks
fills_masks r i hr hi ne one =
    let at : (eqb r GPIO || below 8 (filled r)) ≡ true = below_at register_count (λ r. eqb r GPIO || below 8 (filled r)) all_filled r hr in
    let e = below_at 8 (filled r) (rw (ne_eqb r GPIO ne) at at) i hi in
    every_find (λ f n. apart (place f n) (bit_at r i)) (not-true _ (rw one at e))
