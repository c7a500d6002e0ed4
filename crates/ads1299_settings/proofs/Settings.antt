-- The laws of fields that are set together, by induction on the list.
use Prim.Native.Nat.{ℕ}
use mathlib.Core.Path.{◌≡◌, refl, sym, ◌∙◌, ap}
use mathlib.Core.Bool.{true, false, cond, not, false≢true}
use mathlib.Core.List.{List, [], ◌∷◌}
use borrow.Author.Tests.{eqb-true, eqb-false, not-true}
use lib.Dec.{eqb}
use lib.ListN.{length, get_or}
use lib.Seq.{get_or-set_other}
use Rattle.cases.specs.Every.{every}
use Rattle.bits.proofs.Masks.{passes_same, passes_both}
use Rattle.cases.proofs.Cases.{split, and_both}
use Rattle.ads1299_registers.specs.Addresses.{register_count}
use Rattle.ads1299_registers.specs.Table.{masks}
use Rattle.ads1299_fields.specs.Names.{named}
use Rattle.ads1299_fields.specs.Places.{place, apart}
use Rattle.ads1299_fields.specs.Values.{settable}
use Rattle.ads1299_fields.specs.Layout.{same}
use Rattle.ads1299_settings.specs.Registers.{field_of, with_field, field_byte}
use Rattle.ads1299_settings.specs.Settings.{Setting, Values, with_settings, with_value, with_values, all_settable, any_sets, all_apart}
use Rattle.ads1299_settings.specs.Claims.{AllWritten, SettingsWritten}
use Rattle.ads1299_settings.proofs.Registers.{written}
use Rattle.ads1299_settings.proofs.Masks.{masks_bytes, field_passes}

-- one field set, read at any name
value_one : (l : List ℕ) (n : ℕ) (a : Setting) (f m : ℕ) → length l ≡ register_count → settable a.field n a.value ≡ true → named f m ≡ true
    → field_of (with_field l a.field n a.value) f m ≡ with_value (field_of l) n a f m
value_one l n a f m size h k =
    let w = written l a.field n a.value size h in
    split (same a.field n f m)
    (λ q. let b = and_both (eqb a.field f) (eqb n m) q in rw (q, ← eqb-true a.field f b.0, ← eqb-true n m b.1) w.value)
    (λ q. rw q (w.fields f m k q))

-- the values that settings leave at a name depend on the first values there alone
pub same_values : (given : List Setting) (u v : Values) (n f m : ℕ) → u f m ≡ v f m → with_values u n given f m ≡ with_values v n given f m
unfolding with_values
same_values [] u v n f m e = e
same_values (a ∷ rest) u v n f m e = same_values rest (with_value u n a) (with_value v n a) n f m (ap (λ (x : ℕ). cond (same a.field n f m) a.value x) e)

-- a name that no setting has keeps its value
pub unset_values : (given : List Setting) (u : Values) (n f m : ℕ) → any_sets n given f m ≡ false → with_values u n given f m ≡ u f m
unfolding with_values
unset_values [] u n f m e = refl
unset_values (a ∷ rest) u n f m e =
    split (same a.field n f m)
    (λ q. absurd (false≢true (sym (rw q at e))))
    (λ q. unset_values rest (with_value u n a) n f m (rw q at e) ∙ rw q)

all_written : (given : List Setting) (l : List ℕ) (n : ℕ) → length l ≡ register_count → all_settable n given ≡ true → AllWritten l n given
unfolding with_settings with_values
all_written [] l n size h =
    record {
      fields = λ f m k. refl;
      others = λ j e. refl;
      size = refl;
      bytes = λ b. b;
      passes = λ b r. passes_same (get_or masks r 0) (get_or l r 0) (masks_bytes r) (b r);
    }
all_written (a ∷ rest) l n size h =
    let b = and_both (settable a.field n a.value) (all_settable n rest) h in
    let w = written l a.field n a.value size b.0 in
    let next = with_field l a.field n a.value in
    let ih = all_written rest next n (w.size ∙ size) b.1 in
    record {
      fields = λ f m k. ih.fields f m k ∙ same_values rest (field_of next) (with_value (field_of l) n a) n f m (value_one l n a f m size b.0 k);
      others = λ j e.
          let c = and_both (apart (place a.field n) j) (all_apart n rest j) e in
          ih.others j c.1 ∙ w.others j c.0;
      size = ih.size ∙ w.size;
      bytes = λ y. ih.bytes (w.bytes y);
      passes = λ y r.
          passes_both (get_or masks r 0) (get_or l r 0) (get_or next r 0) (get_or (with_settings next n rest) r 0) (masks_bytes r) (ih.bytes (w.bytes y) r)
          (field_passes l a.field n a.value size y b.0 r) (ih.passes (w.bytes y) r);
    }

pub settings_written : SettingsWritten
settings_written l n given = all_written given l n

-- a register in which no field is set is as it was
pub register_kept : (given : List Setting) (l : List ℕ) (n r : ℕ) → length l ≡ register_count → all_settable n given ≡ true
    → every (λ (a : Setting). not (eqb (place a.field n).register r)) given ≡ true → get_or (with_settings l n given) r 0 ≡ get_or l r 0
unfolding with_settings
register_kept [] l n r size h e = refl
register_kept (a ∷ rest) l n r size h e =
    let b = and_both (settable a.field n a.value) (all_settable n rest) h in
    let c = and_both (not (eqb (place a.field n).register r)) (every (λ (a : Setting). not (eqb (place a.field n).register r)) rest) e in
    let w = written l a.field n a.value size b.0 in
    let ne = eqb-false (place a.field n).register r (not-true _ c.0) in
    register_kept rest (with_field l a.field n a.value) n r (w.size ∙ size) b.1 c.1
    ∙ rw w.by_byte (get_or-set_other l (place a.field n).register r (field_byte l a.field n a.value) 0 (λ z. ne (sym z)))
