-- The laws of a byte's fields, once over place and width.
use mathlib.Core.Path.{subst, ◌≡◌, sym, ◌∙◌, ap}
use Prim.Native.Nat.{ℕ, zero, suc, ◌+◌, ◌*◌, ◌/◌, ◌%◌, ◌^◌, ◌-◌, ◌≤◌, ◌<◌}
use native.Mathlib.Nat.{sub-add_cancel, mod-lt, add-sub_of_le, div-eq_of_lt, zero-mod, div-le_self, mod-eq_of_lt, mul-le-mul_left}
use native.Mathlib.Omega.{arith}
use lib.Pow.{shr_lt, pow_pos, pow_mono, pow-add, high, low, field, mod-mod-pow, shr-shr}
use lib.Arith.{digits_lt}
use lib.Dec.{leb, ltb}
use borrow.Author.Tests.{leb-true, ltb-true}
use mathlib.Core.Bool.{true}
use Rattle.cases.proofs.Cases.{and_both}
use Rattle.bits.specs.Fields.{inserted}
use Rattle.bits.specs.Fields as fields
use Rattle.bits.specs.Laws.{FieldsReplaced}

pub below : (b p w v : ℕ) → v < 2 ^ w → v * 2 ^ p + b % 2 ^ p < 2 ^ (w + p)
below b p w v h = rw pow-add (digits_lt h (mod-lt b (pow_pos p)))

-- above the field, and below it, nothing changes
high_kept : (b p w v : ℕ) → v < 2 ^ w → inserted b p w v / 2 ^ (w + p) ≡ b / 2 ^ (w + p)
unfolding inserted
high_kept b p w v h = high (b / 2 ^ (w + p)) (w + p) (below b p w v h)

middle : (b p w v : ℕ) → v < 2 ^ w → inserted b p w v % 2 ^ (w + p) ≡ v * 2 ^ p + b % 2 ^ p
unfolding inserted
middle b p w v h = low (b / 2 ^ (w + p)) (w + p) (below b p w v h)

low_kept : (b p w v : ℕ) → v < 2 ^ w → inserted b p w v % 2 ^ p ≡ b % 2 ^ p
low_kept b p w v h = sym (mod-mod-pow (inserted b p w v) w p) ∙ rw middle (low v p (mod-lt b (pow_pos p)))

-- a shift, or a remainder, by more, and by less
shr_by : (x : ℕ) {m q : ℕ} → m ≤ q → x / 2 ^ m / 2 ^ (q - m) ≡ x / 2 ^ q
shr_by x {m} {q} le = shr-shr x m (q - m) ∙ rw (add-sub_of_le le)

mod_by : (x : ℕ) {m p : ℕ} → m ≤ p → x % 2 ^ p % 2 ^ m ≡ x % 2 ^ m
mod_by x {m} {p} le = rw (sub-add_cancel le) at (mod-mod-pow x (p - m) m)

pub inserted_lt : (n b p w v : ℕ) → v < 2 ^ w → w + p ≤ n → b < 2 ^ n → inserted b p w v < 2 ^ n
unfolding inserted
inserted_lt n b p w v hv le hb =
    let e : n - (w + p) + (w + p) ≡ n = sub-add_cancel le in
    subst (λ (k : ℕ). inserted b p w v < 2 ^ k) e
    (rw (pow-add 2 (n - (w + p)) (w + p)) (digits_lt (shr_lt (n - (w + p)) (w + p) (rw e hb)) (below b p w v hv)))

pub replaced : FieldsReplaced
unfolding fields.field
replaced b p w v h =
    record {
      value = sym (field (inserted b p w v) w p) ∙ rw middle (high v p (mod-lt b (pow_pos p)));
      above = λ q u le. rw (← shr_by (inserted b p w v) le, ← shr_by b le, high_kept);
      below = λ q u le. rw (← field (inserted b p w v) u q, ← field b u q, ← mod_by (inserted b p w v) le, ← mod_by b le, low_kept);
      small = λ n le hb. inserted_lt n b p w v h le hb;
    }

-- above a byte every field is 0
pub field_none : (b p w : ℕ) → b < 256 → 8 ≤ p → fields.field b p w ≡ 0
unfolding fields.field
field_none b p w small high =
    let l : 2 ^ 8 ≤ 2 ^ p = pow_mono high in
    rw (div-eq_of_lt {n = b} {m = 2 ^ p} (omega arith)) (zero-mod (2 ^ w))

-- a field as wide as a byte, or wider, is all that stands from its place on
pub field_whole : (b p w : ℕ) → b < 256 → 8 ≤ w → b / 2 ^ p ≡ fields.field b p w
unfolding fields.field
field_whole b p w small wide =
    let l : 2 ^ 8 ≤ 2 ^ w = pow_mono wide in
    sym (mod-eq_of_lt (omega (arith, div-le_self b (2 ^ p))))

-- bit i of a field is bit p + i of the byte
pub bit_of_field : (b p w i : ℕ) → i < w → fields.field (fields.field b p w) i 1 ≡ fields.field b (p + i) 1
unfolding fields.field
bit_of_field b p w i h =
    let le : 1 + i ≤ w = omega arith in
    sym (field (b / 2 ^ p % 2 ^ w) 1 i) ∙ rw (mod_by (b / 2 ^ p) le) (field (b / 2 ^ p) 1 i) ∙ ap (λ (x : ℕ). x % 2) (shr-shr b p i)

-- numbers of n bits with the same bits are equal
pub same_bits : (n a b : ℕ) → a < 2 ^ n → b < 2 ^ n → ((i : ℕ) → i < n → fields.field a i 1 ≡ fields.field b i 1) → a ≡ b
unfolding fields.field
same_bits zero a b ha hb h = omega arith
same_bits (suc n) a b ha hb h =
    let up : (x i : ℕ) → x / 2 / 2 ^ i % 2 ≡ x / 2 ^ (1 + i) % 2 = λ x i. ap (λ (y : ℕ). y % 2) (shr-shr x 1 i) in
    let top : a / 2 ≡ b / 2 = same_bits n (a / 2) (b / 2) (omega arith) (omega arith) (λ i lt. up a i ∙ h (1 + i) (omega arith) ∙ sym (up b i)) in
    omega (arith, h 0 (omega arith))

-- a value that can be inserted: its field lies within the byte, and the value within the field
pub record Fitting (p w v : ℕ) : Type 0 where
  pub inside : w + p ≤ 8
  pub fits : v < 2 ^ w
  pub place : p ≤ 8

pub fitting : (p w v : ℕ) → fields.insertable p w v ≡ true → Fitting p w v
unfolding fields.insertable
fitting p w v e =
    let g = and_both (leb (w + p) 8) (ltb v (2 ^ w)) e in
    let i = leb-true _ _ g.0 in
    record { inside = i; fits = ltb-true _ _ g.1; place = omega (arith, i) }

-- The bounds of the sum and its parts. The sum is small too where the bits above are moved down, so their loss is refused by the result alone.
pub record Bounds (b v low high : ℕ) : Type 0 where
  pub low_pos : 0 < low
  pub high_pos : 0 < high
  pub moved : b / high * low ≤ b / high * high
  pub whole : b / high * high + (v * low + b % low) < 256

pub bounds : (b p w v low high : ℕ) → b < 256 → fields.insertable p w v ≡ true → low ≡ 2 ^ p → high ≡ 2 ^ (w + p) → Bounds b v low high
unfolding inserted
bounds b p w v low high small e l h =
    let f = fitting p w v e in
    rw (l, h)
    (record {
      low_pos = pow_pos _;
      high_pos = pow_pos _;
      moved = mul-le-mul_left _ (pow_mono (omega arith));
      whole = inserted_lt 8 b p w v f.fits f.inside small;
    })
