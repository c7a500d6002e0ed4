-- The laws of places in a list of registers, once over place and width; and so of every field.
use mathlib.Core.Path.{◌≡◌, sym, ◌∙◌}
use mathlib.Core.Bool.{true, false, not, ◌&&◌}
use mathlib.Core.List.{List}
use Prim.Native.Nat.{ℕ, ◌+◌, ◌-◌, ◌^◌, ◌≤◌, ◌<◌}
use native.Mathlib.Nat.{add-sub_of_le, lt_of_lt_of_le}
use native.Mathlib.Omega.{arith}
use lib.Dec.{leb, ltb, eqb}
use borrow.Author.Tests.{eqb-true, eqb-false, leb-true, ltb-true, le-leb, lt-ltb}
use lib.ListN.{length, get_or, length-set}
use lib.Pow.{pow_mono}
use lib.Seq.{get_or-set_same, get_or-set_other, ext_get_or}
use Rattle.bits.specs.Fields.{field, insertable}
use Rattle.bits.proofs.Fields.{replaced, bit_of_field, same_bits}
use Rattle.cases.proofs.Cases.{split, and_both}
use Rattle.ads1299_fields.specs.declared.Place.{Place}
use Rattle.ads1299_fields.specs.Table.{row_of}
use Rattle.ads1299_fields.specs.Names.{is_field, named}
use Rattle.ads1299_fields.specs.Places.{place, apart, bit_at}
use Rattle.ads1299_fields.specs.Values.{fits, legal, settable}
use Rattle.ads1299_settings.specs.Registers.{read_at, write_at, new_byte, field_of, with_field, field_byte}
use Rattle.ads1299_settings.specs.Claims.{Bytes, FieldsWritten, UnnamedUntouched}
use Rattle.ads1299_fields.proofs.Apart.{place_inside, places_apart, has}

module _ (l : List ℕ) (k : Place) (v : ℕ) (in_list : k.register < length l) (fit : v < 2 ^ k.width) where
  pub read_same : read_at (write_at l k v) k ≡ v
  unfolding read_at write_at
  read_same = rw get_or-set_same (replaced (get_or l k.register 0) k.bit k.width v fit).value

  pub read_other : (j : Place) → apart k j ≡ true → read_at (write_at l k v) j ≡ read_at l j
  unfolding read_at write_at apart
  read_other j t =
      let r = replaced (get_or l k.register 0) k.bit k.width v fit in
      split (eqb j.register k.register)
      (λ e. rw (eqb-true j.register k.register e, get_or-set_same)
      (split (leb (k.width + k.bit) j.bit)
      (λ f. r.above j.bit j.width (leb-true _ _ f))
      (λ f. r.below j.bit j.width (leb-true _ _ (rw (e, f) at t)))))
      (λ e. rw (get_or-set_other l k.register j.register (new_byte l k v) 0 (eqb-false j.register k.register e)))

  pub write_bytes : k.width + k.bit ≤ 8 → Bytes l → Bytes (write_at l k v)
  unfolding write_at
  write_bytes le h i =
      split (eqb i k.register)
      (λ e. rw (eqb-true i k.register e, get_or-set_same) ((replaced (get_or l k.register 0) k.bit k.width v fit).small 8 le (h k.register)))
      (λ e. rw (get_or-set_other l k.register i (new_byte l k v) 0 (eqb-false i k.register e)) (h i))

pub write_length : (l : List ℕ) (k : Place) (v : ℕ) → length (write_at l k v) ≡ length l
unfolding write_at
write_length l k v = length-set l k.register (new_byte l k v)

-- a bit that a place has is a bit of what stands there
pub bit_of : (l : List ℕ) (k : Place) (r i : ℕ) → apart k (bit_at r i) ≡ false → read_at l (bit_at r i) ≡ field (read_at l k) (i - k.bit) 1
unfolding read_at
bit_of l k r i t =
    let h = has k r i t in
    let lo : k.bit ≤ i = h.from in
    rw h.in_register (sym (bit_of_field (get_or l k.register 0) k.bit k.width (i - k.bit) (omega arith) ∙ rw (add-sub_of_le lo)))

-- registers with the same bits are the same
pub same_registers : (l m : List ℕ) → length l ≡ length m → Bytes l → Bytes m
    → ((r i : ℕ) → read_at l (bit_at r i) ≡ read_at m (bit_at r i)) → l ≡ m
unfolding read_at
same_registers l m e hl hm h = ext_get_or 0 l m e (λ r lt. same_bits 8 (get_or l r 0) (get_or m r 0) (hl r) (hm r) (λ i lt'. h r i))

pub place_width : (f n : ℕ) → named f n ≡ true → (place f n).width ≡ (row_of f).width
unfolding place
place_width f n h = rw h

-- what can be set has a name, fits the place, and is a byte
pub record Settable (f n v : ℕ) : Type 0 where
  pub name : named f n ≡ true
  pub fit : v < 2 ^ (place f n).width
  pub small : v < 256
  pub insert : insertable (place f n).bit (place f n).width v ≡ true

pub settable_facts : (f n v : ℕ) → settable f n v ≡ true → Settable f n v
unfolding settable fits insertable
settable_facts f n v h =
    let k = place f n in
    let b = and_both (named f n) (ltb v (2 ^ (row_of f).width)) h in
    let fit : v < 2 ^ k.width = rw (place_width f n b.0) (ltb-true v (2 ^ (row_of f).width) b.1) in
    let le = (place_inside f n b.0).in_byte in
    record {
      name = b.0;
      fit = fit;
      small = lt_of_lt_of_le fit (pow_mono {j = 8} (omega arith));
      insert = rw (le-leb (k.width + k.bit) 8 le, lt-ltb v (2 ^ k.width) fit);
    }

pub legal_settable : (f n v : ℕ) → named f n ≡ true → legal f v ≡ true → settable f n v ≡ true
unfolding legal settable
legal_settable f n v h e = rw h (and_both (is_field f) (fits f v) (and_both (is_field f && fits f v) (not (eqb v (row_of f).refused)) e).0).1

pub written : FieldsWritten
unfolding with_field field_of field_byte write_at
written l f n v e h =
    let s = settable_facts f n v h in
    let k = place f n in
    let inside = place_inside f n s.name in
    let lt : k.register < length l = omega (arith, inside.in_list) in
    record {
      value = rw h (read_same l k v lt s.fit);
      fields = λ g m hg ne. rw h (read_other l k v lt s.fit (place g m) (places_apart f n g m s.name hg ne));
      others = λ j t. rw h (read_other l k v lt s.fit j t);
      size = rw h (write_length l k v);
      bytes = λ b. rw h (write_bytes l k v lt s.fit inside.in_byte b);
      by_byte = rw h;
    }

pub unnamed : UnnamedUntouched
unfolding field_of with_field field_byte settable place read_at field
unnamed l f n v h = record { value = rw h (omega arith); registers = rw h; byte = rw h }
