-- Laws of numbers and bytes as text.
use mathlib.Core.Path.{◌≡◌, refl, sym, ap, ◌∙◌}
use mathlib.Core.List.{List, [], ◌∷◌, ◌++◌, append_assoc, append-nil}
use Prim.Native.Nat.{ℕ, ◌+◌, ◌*◌, ◌/◌, ◌%◌, ◌≤◌, ◌<◌}
use native.Mathlib.Omega.{arith}
use borrow.Author.Tests.{lt-ltb, le-ltb}
use native.Mathlib.Numerals.{add-one}
use lib.ListN.{length, take, get_or, length-append}
use lib.Seq.{take-suc, length-take-le}
use Rattle.console.specs.Text.{digit, decimal, hex, hexes}

pub one_digit : (n : ℕ) → n < 10 → decimal n ≡ digit n ∷ []
unfolding decimal
one_digit n h = rw (lt-ltb _ _ h)

pub two_digits : (n : ℕ) → 10 ≤ n → decimal n ≡ digit (n / 10) ∷ digit (n % 10) ∷ []
unfolding decimal
two_digits n h = rw (le-ltb _ _ h)

pub length_hex : (b : ℕ) → length (hex b) ≡ 3
unfolding hex
length_hex b = refl

pub length_hexes : (l : List ℕ) → length (hexes l) ≡ 3 * length l
unfolding hexes
length_hexes [] = refl
length_hexes (b ∷ l) = length-append (hex b) (hexes l) ∙ omega (arith, length_hex b, length_hexes l)

pub hexes_snoc : (l : List ℕ) (b : ℕ) → hexes (l ++ (b ∷ [])) ≡ hexes l ++ hex b
unfolding hexes
hexes_snoc [] b = append-nil (hex b)
hexes_snoc (a ∷ l) b = ap (λ (r : List ℕ). hex a ++ r) (hexes_snoc l b) ∙ sym (append_assoc (hex a) (hexes l) (hex b))

-- the bytes so far
pub hexes_so_far : (bytes : List ℕ) (i : ℕ) → i ≤ length bytes → length (hexes (take i bytes)) ≡ 3 * i
hexes_so_far bytes i h = length_hexes (take i bytes) ∙ omega (arith, length-take-le i bytes h)

-- and one more
pub next_hex : (bytes : List ℕ) (i : ℕ) → i < length bytes → hexes (take (i + 1) bytes) ≡ hexes (take i bytes) ++ hex (get_or bytes i 0)
next_hex bytes i h = ap (λ (m : ℕ). hexes (take m bytes)) (add-one i) ∙ ap hexes (take-suc bytes i 0 h) ∙ hexes_snoc (take i bytes) (get_or bytes i 0)
