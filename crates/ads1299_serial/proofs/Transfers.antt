-- The bounds of a transfer that counts its bytes, and how they go on.
use Prim.Native.Nat.{ℕ, ◌+◌, ◌-◌, ◌<◌, ◌≤◌}
use mathlib.Core.Path.{◌≡◌, refl}
use mathlib.Core.Bool.{Bool, true, not, ◌&&◌}
use native.Mathlib.Nat.{pos_of_ne-zero}
use native.Mathlib.Omega.{arith}
use borrow.Author.Tests.{eqb-false, leb-true, ltb-true, le-leb, ne_eqb, not-true}
use lib.Dec.{leb, ltb, eqb}
use Rattle.cases.proofs.Cases.{either, and_both}
use Rattle.ads1299_serial.specs.declared.Transfer.{Transfer}
use Rattle.ads1299_serial.specs.declared.Phase.{Phase}
use Rattle.ads1299_serial.specs.declared.Phase.TheVariants.{Held, Counting}
use Rattle.ads1299_serial.specs.Transfers.{transfer, countable, valid_phase, begun, remainder}

-- a transfer that counts its bytes
pub record Bounds (t : Transfer) : Type 0 where
  pub some : 0 < t.remaining
  pub few : t.remaining ≤ 32
  pub low : t.address + t.remaining ≤ 63

pub bounds : (t : Transfer) → countable t ≡ true → Bounds t
unfolding countable
bounds t e =
    let a = not (eqb t.remaining 0) in
    let b = leb t.remaining 32 in
    let c = leb (t.address + t.remaining) 63 in
    let x = and_both (a && b) c e in
    let y = and_both a b x.0 in
    record {
      some = pos_of_ne-zero (eqb-false t.remaining 0 (not-true (eqb t.remaining 0) y.0));
      few = leb-true _ _ y.1;
      low = leb-true _ _ x.1;
    }

pub in_bounds : (t : Transfer) → Bounds t → countable t ≡ true
unfolding countable
in_bounds t b = let lt = b.some in rw (ne_eqb t.remaining 0 (λ z. omega arith), le-leb _ _ b.few, le-leb _ _ b.low)

-- a command that may stand half given goes on so
pub begun_valid : (t : Transfer) (b : ℕ) (may : Bool) → valid_phase (Held t) may ≡ true → valid_phase (begun t b) may ≡ true
unfolding begun
begun_valid t b may e =
    let h = and_both may (leb t.address 31) e in
    let a = leb-true t.address 31 h.1 in
    either (λ (p : Phase). valid_phase p may ≡ true) (leb b 31)
    (λ u. let l = leb-true b 31 u in rw h.0 (in_bounds (transfer t.direction t.address (b + 1)) (record { some = omega arith; few = omega arith; low = omega arith })))
    (λ u. refl)

pub remainder_valid : (t : Transfer) (may : Bool) → valid_phase (Counting t) may ≡ true → valid_phase (remainder t) may ≡ true
unfolding remainder
remainder_valid t may e =
    let h = and_both may (countable t) e in
    let b = bounds t h.1 in
    either (λ (p : Phase). valid_phase p may ≡ true) (ltb 1 t.remaining && countable t)
    (λ u. let l = ltb-true 1 t.remaining (and_both (ltb 1 t.remaining) (countable t) u).0 in rw h.0 (in_bounds (transfer t.direction (t.address + 1) (t.remaining - 1)) (record { some = omega arith; few = omega arith; low = omega arith })))
    (λ u. refl)
