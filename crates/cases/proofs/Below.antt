-- From a computed test to the rule at each number, and to a number where it fails.
use mathlib.Core.Path.{◌≡◌, sym}
use mathlib.Core.Logic.{inl, inr}
use mathlib.Core.Bool.{Bool, true, false, false≢true}
use Prim.Native.Nat.{ℕ, zero, suc, ◌<◌}
use native.Mathlib.Nat.{not-suc-le-zero, eq-or-lt_of_le, suc_inj}
use native.Mathlib.Omega.{arith}
use Rattle.cases.specs.Below.{below}
use Rattle.cases.proofs.Cases.{split, and_both}

pub below_at : (k : ℕ) (test : ℕ → Bool) → below k test ≡ true → (i : ℕ) → i < k → test i ≡ true
below_at zero test h i lt = absurd (not-suc-le-zero lt)
below_at (suc k) test h i lt =
    let b = and_both (test k) (below k test) h in
    let ih = below_at k test b.1 i in
    elim (eq-or-lt_of_le lt) [ inl e ↦ rw (suc_inj e) b.0 | inr l ↦ ih (omega arith) ]

-- a test that fails somewhere, and where
pub below_find : (k : ℕ) (test : ℕ → Bool) → below k test ≡ false → (i : ℕ) × (test i ≡ false)
below_find zero test e = absurd (false≢true (sym e))
below_find (suc k) test e =
    let ih = below_find k test in
    split (test k) (λ a. ih (rw a at e)) (λ a. (k, a))
