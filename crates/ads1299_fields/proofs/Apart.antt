-- The fields' layout, by one computed test over every two names.
use mathlib.Core.Path.{◌≡◌, refl, sym, ◌∙◌}
use mathlib.Core.Logic.{◌⊎◌, inl, inr}
use mathlib.Core.Bool.{Bool, true, false, ◌&&◌, ◌||◌, false≢true}
use Prim.Native.Nat.{ℕ, ◌+◌, ◌≤◌, ◌<◌}
use native.Mathlib.Omega.{arith}
use lib.Dec.{ltb, leb, eqb}
use borrow.Author.Tests.{ltb-true, leb-true, leb-false, eqb-true, eq-eqb, lt-leb}
use Rattle.cases.proofs.Cases.{split, and_both}
use Rattle.ads1299_registers.specs.Addresses.{register_count, ID}
use Rattle.ads1299_fields.specs.declared.Place.{Place}
use Rattle.ads1299_fields.specs.Table.{table, row_of}
use Rattle.ads1299_fields.specs.Names.{named, every_name}
use Rattle.ads1299_fields.specs.Places.{place, apart, bit_at}
use Rattle.ads1299_fields.specs.Layout.{same, InField, Free, Inside, Layout}
use Rattle.ads1299_fields.proofs.Names.{every_at, every_find}

abbrev within : Place → Bool
within k = ltb ID k.register && ltb k.register register_count && leb (k.width + k.bit) 8

abbrev beside : ℕ → ℕ → ℕ → ℕ → Bool
beside f n g m = same f n g m || apart (place f n) (place g m)

laid_out : every_name (λ f n. within (place f n) && every_name (beside f n)) ≡ true
unfolding every_name named place apart row_of table
laid_out = refl

at_name : (f n : ℕ) → named f n ≡ true → (within (place f n) ≡ true) × (every_name (beside f n) ≡ true)
at_name f n h = and_both (within (place f n)) (every_name (beside f n)) (every_at (λ f n. within (place f n) && every_name (beside f n)) laid_out f n h)

pub place_inside : (f n : ℕ) → named f n ≡ true → Inside (place f n)
place_inside f n h =
    let k = place f n in
    let b = and_both (ltb ID k.register && ltb k.register register_count) (leb (k.width + k.bit) 8) (at_name f n h).0 in
    let c = and_both (ltb ID k.register) (ltb k.register register_count) b.0 in
    record { after_id = ltb-true _ _ c.0; in_list = ltb-true _ _ c.1; in_byte = leb-true _ _ b.1 }

pub places_apart : (f n g m : ℕ) → named f n ≡ true → named g m ≡ true → same f n g m ≡ false → apart (place f n) (place g m) ≡ true
places_apart f n g m hf hg e = rw e at (every_at (beside f n) (at_name f n hf).1 g m hg)

-- no place leaves the registers
pub place_in_list : (f n : ℕ) → (place f n).register < register_count
unfolding place
place_in_list f n = split (named f n) (λ h. (place_inside f n h).in_list) (λ h. rw h (omega arith))

-- a place has a bit
pub record Has (k : Place) (r i : ℕ) : Type 0 where
  pub in_register : r ≡ k.register
  pub from : k.bit ≤ i
  pub to : i < k.width + k.bit

pub has : (k : Place) (r i : ℕ) → apart k (bit_at r i) ≡ false → Has k r i
unfolding apart
has k r i t =
    split (eqb r k.register)
    (λ e. split (leb (k.width + k.bit) i)
    (λ f. absurd (false≢true (sym (rw (e, f) at t))))
    (λ f. record {
      in_register = eqb-true r k.register e;
      from = omega (arith, leb-false (1 + i) k.bit (rw (e, f) at t));
      to = leb-false (k.width + k.bit) i f;
    }))
    (λ e. absurd (false≢true (sym (rw e at t))))

-- places that share a bit are not apart
shared : (k j : Place) (r i : ℕ) → Has k r i → Has j r i → apart k j ≡ false
unfolding apart
shared k j r i a b =
    rw (eq-eqb j.register k.register (sym b.in_register ∙ a.in_register), lt-leb (k.width + k.bit) j.bit (omega arith), lt-leb (j.width + j.bit) k.bit (omega arith))

pub layout : Layout
layout =
    record {
      inside = place_inside;
      separate = places_apart;
      one_field = λ f n g m r i hf hg a b. split (same f n g m) (λ e. e)
          (λ e.
          let k = place f n in
          let j = place g m in
          absurd (false≢true (sym (shared k j r i (has k r i a) (has j r i b)) ∙ places_apart f n g m hf hg e)));
    }

-- a bit is in no field, or in one
pub free_or_in : (r i : ℕ) → Free r i ⊎ InField r i
free_or_in r i =
    let test : ℕ → ℕ → Bool = λ f n. apart (place f n) (bit_at r i) in
    split (every_name test) (λ e. inl (every_at test e)) (λ e. inr (every_find test e))
