-- The laws of a write through a mask, by induction on the bits: a masked write of k bits is one of the bits above the lowest, and the lowest.
use Prim.Native.Nat.{ℕ, zero, suc, ◌+◌, ◌-◌, ◌*◌, ◌/◌, ◌%◌, ◌^◌, ◌<◌, min}
use mathlib.Core.Path.{◌≡◌, refl, sym, ◌∙◌, ap}
use mathlib.Core.Bool.{cond}
use native.Mathlib.Nat.{pow-suc}
use native.Mathlib.Omega.{arith}
use native.Mathlib.Numerals.{one-add}
use borrow.Author.Tests.{eqb-true, eqb-false, leb-true, leb-false}
use lib.Dec.{eqb, leb}
use lib.Pow.{pow_pos, shr-shr}
use lib.Bits.{bit_and, bit_or, and_step, and_le_r, and_zero_l}
use Rattle.std.proofs.lemmas.Nat.{or_disjoint, and_assoc, and_comm}
use Rattle.std.proofs.lemmas.Grind.{and-not_self}
use Rattle.bits.specs.Fields.{field, bit, inserted, masked}
use Rattle.bits.specs.Laws.{MasksSelect, CoveredPasses}
use Rattle.cases.proofs.Cases.{split}
use Rattle.bits.proofs.Fields.{replaced, same_bits, bit_of_field}

pub masked_lt : (old mask new : ℕ) → mask < 256 → masked old mask new < 256
unfolding masked
masked_lt old mask new h = omega (arith, and_le_r old (255 - mask), and_le_r new mask)

-- the two parts share no bit, so the code's `|` is the sum
pub parts_joined : (old mask new : ℕ) → mask < 256 → bit_or (bit_and old (255 - mask)) (bit_and new mask) ≡ masked old mask new
unfolding masked
parts_joined old mask new h =
    let kept = bit_and old (255 - mask) in
    let apart : bit_and kept mask ≡ 0 = and-not_self old 255 mask mask refl (omega arith) refl in
    or_disjoint kept (bit_and new mask) (ap (bit_and kept) (and_comm new mask) ∙ sym (and_assoc new kept mask) ∙ rw apart (and_zero_l new))

-- a masked write of k bits, one bit at a time
abbrev over : ℕ → ℕ → ℕ → ℕ → ℕ
over k old m new = bit_and old (2 ^ k - 1 - m) + bit_and new m

one_bit : (a b m : ℕ) → m < 2 → a < 2 → b < 2 → min a (1 - m) + min b m ≡ cond (eqb m 1) b a
one_bit a b m hm ha hb =
    split (eqb m 1) (λ e. let z = eqb-true m 1 e in rw e (omega arith)) (λ e. let z = eqb-false m 1 e in rw e (omega arith))

over_step : (k old m new : ℕ) → m < 2 ^ suc k → over (suc k) old m new ≡ over k (old / 2) (m / 2) (new / 2) * 2 + cond (eqb (m % 2) 1) (new % 2) (old % 2)
over_step k old m new h =
    let p : 2 ^ suc k ≡ 2 ^ k * 2 = pow-suc 2 k in
    let c = 2 ^ suc k - 1 - m in
    let ch : c / 2 ≡ 2 ^ k - 1 - m / 2 = omega arith in
    let cl : c % 2 ≡ 1 - m % 2 = omega arith in
    let e : bit_and old c ≡ bit_and (old / 2) (2 ^ k - 1 - m / 2) * 2 + min (old % 2) (1 - m % 2) =
    and_step old c ∙ ap (λ (x : ℕ). bit_and (old / 2) x * 2 + min (old % 2) (c % 2)) ch ∙ ap (λ (x : ℕ). bit_and (old / 2) (2 ^ k - 1 - m / 2) * 2 + min (old % 2) x) cl in
    omega (arith, e, and_step new m, one_bit (old % 2) (new % 2) (m % 2) (omega arith) (omega arith) (omega arith))

bit_up : (x i : ℕ) → field x (suc i) 1 ≡ field (x / 2) i 1
unfolding field
bit_up x i = rw (← one-add i) (ap (λ (y : ℕ). y % 2) (sym (shr-shr x 1 i)))

bit_zero : (x : ℕ) → field x 0 1 ≡ x % 2
unfolding field
bit_zero x = omega arith

over_bit : (k old m new i : ℕ) → m < 2 ^ k → i < k → field (over k old m new) i 1 ≡ cond (bit m i) (field new i 1) (field old i 1)
unfolding bit
over_bit zero old m new i h lt = absurd (omega arith)
over_bit (suc k) old m new zero h lt =
    let e = over_step k old m new h in
    let c = cond (eqb (m % 2) 1) (new % 2) (old % 2) in
    let small : c < 2 = split (eqb (m % 2) 1) (λ t. rw t (omega arith)) (λ t. rw t (omega arith)) in
    rw (bit_zero (over (suc k) old m new), bit_zero m, bit_zero new, bit_zero old) (omega arith)
over_bit (suc k) old m new (suc i) h lt =
    let p : 2 ^ suc k ≡ 2 ^ k * 2 = pow-suc 2 k in
    let e = over_step k old m new h in
    let c = cond (eqb (m % 2) 1) (new % 2) (old % 2) in
    let small : c < 2 = split (eqb (m % 2) 1) (λ t. rw t (omega arith)) (λ t. rw t (omega arith)) in
    let half : over (suc k) old m new / 2 ≡ over k (old / 2) (m / 2) (new / 2) = omega arith in
    rw (bit_up (over (suc k) old m new) i, bit_up m i, bit_up new i, bit_up old i, half) (over_bit k (old / 2) (m / 2) (new / 2) i (omega arith) (omega arith))

pub selects : MasksSelect
unfolding masked
selects old mask new h i lt = over_bit 8 old mask new i h lt

-- every bit of 2 ^ w - 1 is 1
all_ones : (w i : ℕ) → i < w → field (2 ^ w - 1) i 1 ≡ 1
all_ones zero i lt = absurd (omega arith)
all_ones (suc w) zero lt = let p : 2 ^ suc w ≡ 2 ^ w * 2 = pow-suc 2 w in let q = pow_pos w in bit_zero (2 ^ suc w - 1) ∙ omega arith
all_ones (suc w) (suc i) lt =
    let p : 2 ^ suc w ≡ 2 ^ w * 2 = pow-suc 2 w in
    let half : (2 ^ suc w - 1) / 2 ≡ 2 ^ w - 1 = omega arith in
    bit_up (2 ^ suc w - 1) i ∙ rw half (all_ones w i (omega arith))

pub passes_mask : CoveredPasses
unfolding bit
passes_mask b p w v mask hb hm hv le covers =
    let new = inserted b p w v in
    let r = replaced b p w v hv in
    same_bits 8 (masked b mask new) new (masked_lt b mask new hm) (r.small 8 le hb)
    (λ i lt. selects b mask new hm i lt ∙ split (bit mask i) (λ e. rw e) (λ e. rw e
    (split (leb (1 + i) p) (λ f. sym (r.below i 1 (leb-true (1 + i) p f)))
    (λ f. split (leb (w + p) i) (λ g. sym (r.above i 1 (leb-true (w + p) i g)))
    (λ g.
    let lo = leb-false (1 + i) p f in
    let hi = leb-false (w + p) i g in
    let at : p + (i - p) ≡ i = omega arith in
    let one : field mask i 1 ≡ 1 = rw at at (sym (bit_of_field mask p w (i - p) (omega arith))) ∙ rw covers (all_ones w (i - p) (omega arith)) in
    absurd (eqb-false (field mask i 1) 1 e one))))))

-- a byte passes any mask over itself
pub passes_same : (mask b : ℕ) → mask < 256 → b < 256 → masked b mask b ≡ b
passes_same mask b hm hb =
    same_bits 8 (masked b mask b) b (masked_lt b mask b hm) hb (λ i lt. selects b mask b hm i lt ∙ split (bit mask i) (λ e. rw e) (λ e. rw e))

-- what passes over a byte, and that over another, passes over the other
pub passes_both : (mask a b c : ℕ) → mask < 256 → c < 256 → masked a mask b ≡ b → masked b mask c ≡ c → masked a mask c ≡ c
passes_both mask a b c hm hc first second =
    same_bits 8 (masked a mask c) c (masked_lt a mask c hm) hc
    (λ i lt. selects a mask c hm i lt
    ∙ split (bit mask i)
    (λ e. rw e)
    (λ e.
    let one : field b i 1 ≡ field a i 1 = ap (λ (x : ℕ). field x i 1) (sym first) ∙ selects a mask b hm i lt ∙ rw e in
    let two : field c i 1 ≡ field b i 1 = ap (λ (x : ℕ). field x i 1) (sym second) ∙ selects b mask c hm i lt ∙ rw e in
    rw e (sym (two ∙ one))))
