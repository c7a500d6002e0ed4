-- One group of a number: what it reads as and how it is written.
use mathlib.Core.List.{List, [], ◌∷◌}
use mathlib.Core.Path.{◌≡◌, refl}
use Prim.Native.Nat.{ℕ, suc, ◌+◌, ◌-◌, ◌*◌, ◌/◌, ◌%◌, ◌≤◌, ◌<◌}
use native.Mathlib.Nat.{not-suc-le-zero}
use native.Mathlib.Omega.{arith}
use borrow.Author.Tests.{lt-ltb, le-ltb, eqb-true, eqb-false, ne_eqb}
use lib.Dec.{eqb}
use lib.ListN.{length, drop, get_or}
use Rattle.refusal.specs.Numbers.{none, truncated}
use Rattle.refusal.specs.First.{accepted}
use Rattle.leb128.specs.Answers.{Number}
use Rattle.leb128.specs.Numbers.{base, found, refused}
use Rattle.leb128.specs.Encoding.{encoded}
use Rattle.leb128.specs.Decoding.{joined, decoded}
use Rattle.cases.proofs.Cases.{split}

pub encoded_last : (k n : ℕ) → n < base → encoded (suc k) n ≡ n ∷ []
unfolding encoded
encoded_last k n h = rw (lt-ltb n base h)

pub encoded_more : (k n : ℕ) → base ≤ n → encoded (suc k) n ≡ (base + n % base) ∷ encoded k (n / base)
unfolding encoded
encoded_more k n h = rw (le-ltb n base h)

pub decoded_none : (k : ℕ) (l : List ℕ) → length l ≡ 0 → decoded (suc k) l ≡ refused truncated
unfolding decoded
decoded_none k [] e = refl
decoded_none k (b ∷ l) e = absurd (omega arith)

pub decoded_last : (k : ℕ) (l : List ℕ) → 0 < length l → get_or l 0 0 < base → decoded (suc k) l ≡ found (get_or l 0 0) 1
unfolding decoded
decoded_last k [] p h = absurd (not-suc-le-zero p)
decoded_last k (b ∷ l) p h = rw (lt-ltb b base h)

pub decoded_more : (k : ℕ) (l : List ℕ) → 0 < length l → base ≤ get_or l 0 0 → decoded (suc k) l ≡ joined (get_or l 0 0 - base) (decoded k (drop 1 l))
unfolding decoded
decoded_more k [] p h = absurd (not-suc-le-zero p)
decoded_more k (b ∷ l) p h = rw (le-ltb b base h)

-- groups that are not 0 after a low one
pub join : (low n used : ℕ) → 0 < n → joined low (found n used) ≡ found (low + base * n) (used + 1)
join low n used h = rw (ne_eqb n 0 (λ e. omega arith))

-- a joined number that is accepted: the groups after the low one are, and are not 0
pub parts : (low : ℕ) (rest : Number) → (joined low rest).refusal ≡ none → (rest.refusal ≡ none) × (0 < rest.value)
parts low rest e =
    split (accepted rest.refusal)
    (λ a.
    split (eqb rest.value 0) (λ z. let f : ◌≡◌ {A = ℕ} 2 0 = rw (a, z) at e in absurd (omega arith))
    (λ z. (eqb-true _ _ a, omega (arith, eqb-false rest.value 0 z))))
    (λ a. absurd (eqb-false rest.refusal none a (rw a at e)))
