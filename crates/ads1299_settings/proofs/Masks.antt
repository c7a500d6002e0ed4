-- The byte that sets a field passes its register's mask whole, and so do all registers.
use Prim.Native.Nat.{ℕ}
use mathlib.Core.Path.{◌≡◌, refl}
use mathlib.Core.Bool.{true}
use mathlib.Core.List.{List}
use native.Mathlib.Omega.{arith}
use borrow.Author.Tests.{ltb-true, ltb-false, eqb-true, eqb-false}
use lib.Dec.{ltb, eqb}
use lib.ListN.{length, get_or, get_or-eq_default}
use lib.Seq.{get_or-set_same, get_or-set_other}
use Rattle.bits.specs.Fields.{masked}
use Rattle.bits.proofs.Masks.{passes_mask, passes_same}
use Rattle.cases.proofs.Cases.{split}
use Rattle.cases.proofs.Below.{below_at}
use Rattle.ads1299_registers.specs.Addresses.{register_count}
use Rattle.ads1299_registers.specs.Table.{masks}
use Rattle.ads1299_fields.specs.Places.{place}
use Rattle.ads1299_fields.specs.Values.{settable}
use Rattle.ads1299_fields.proofs.Apart.{place_inside}
use Rattle.ads1299_fields.proofs.Masks.{inside_masks}
use Rattle.ads1299_settings.specs.Registers.{field_byte, with_field}
use Rattle.ads1299_settings.specs.Claims.{Bytes}
use Rattle.ads1299_settings.proofs.Registers.{settable_facts, written}

-- the masks are bytes: a test that is computed over the list, and 0 past its end
pub masks_bytes : Bytes masks
unfolding masks
masks_bytes i =
    split (ltb i register_count)
    (λ e. ltb-true _ _ (below_at register_count (λ g. ltb (get_or masks g 0) 256) refl i (ltb-true _ _ e)))
    (λ e. rw (get_or-eq_default masks 0 (ltb-false i register_count e)) (omega arith))

byte_passes : (l : List ℕ) (f n v : ℕ) → Bytes l → settable f n v ≡ true
    → masked (get_or l (place f n).register 0) (get_or masks (place f n).register 0) (field_byte l f n v) ≡ field_byte l f n v
unfolding field_byte
byte_passes l f n v hl h =
    let k = place f n in
    let s = settable_facts f n v h in
    rw h
    (passes_mask (get_or l k.register 0) k.bit k.width v (get_or masks k.register 0) (hl k.register) (masks_bytes k.register) s.fit
    (place_inside f n s.name).in_byte (inside_masks f n s.name))

-- one field set: its register passes by its byte, every other one is as it was
pub field_passes : (l : List ℕ) (f n v : ℕ) → length l ≡ register_count → Bytes l → settable f n v ≡ true → (r : ℕ)
    → masked (get_or l r 0) (get_or masks r 0) (get_or (with_field l f n v) r 0) ≡ get_or (with_field l f n v) r 0
field_passes l f n v size hl h r =
    let at = (place f n).register in
    let inside = (place_inside f n (settable_facts f n v h).name).in_list in
    rw (written l f n v size h).by_byte
    (split (eqb r at)
    (λ e. rw (eqb-true r at e, get_or-set_same l at (field_byte l f n v) 0 (omega arith)) (byte_passes l f n v hl h))
    (λ e. rw (get_or-set_other l at r (field_byte l f n v) 0 (eqb-false r at e)) (passes_same (get_or masks r 0) (get_or l r 0) (masks_bytes r) (hl r))))
