-- Laws of rails: a rail is given at its end of the range and nowhere else.
use Prim.Native.Nat.{ℕ, zero, suc}
use mathlib.Core.Path.{◌≡◌, refl, sym, ◌∙◌, ap}
use mathlib.Core.Bool.{true, false, not, false≢true}
use mathlib.Core.List.{[], ◌∷◌}
use borrow.Author.Tests.{eqb-true, not-true}
use lib.IntN.{ℤ, pos, negsuc, suc_ℤ, pred_ℤ}
use Rattle.cases.proofs.Cases.{split, and_both}
use Rattle.ads1299_codes.specs.Codes.{lowest, highest, in_range, word_of, code_of}
use Rattle.ads1299_codes.specs.Words.{word, word_bytes}
use Rattle.ads1299_codes.specs.Rails.{eq_z, rail_number, stands_for, rail_of}
use Rattle.ads1299_codes.specs.RailsExact.{OnlyAt, RailsExact}
use Rattle.ads1299_codes.specs.declared.Rail.{Rail}
use Rattle.ads1299_codes.specs.declared.Rail.TheVariants.{Neither, Lowest, Highest}
use Rattle.ads1299_codes.proofs.RoundTrip.{codec}

eq_z_true : (a b : ℤ) → eq_z a b ≡ true → a ≡ b
eq_z_true (pos m) (pos n) e = ap pos (eqb-true m n e)
eq_z_true (pos m) (negsuc n) e = absurd (false≢true e)
eq_z_true (negsuc m) (pos n) e = absurd (false≢true e)
eq_z_true (negsuc m) (negsuc n) e = ap negsuc (eqb-true m n e)

ne_eq_z : (a b : ℤ) → (a ≡ b → ⊥) → eq_z a b ≡ false
ne_eq_z a b ne = split (eq_z a b) (λ e. absurd (ne (eq_z_true a b e))) (λ e. e)

pub lowest_there : rail_of lowest ≡ Lowest
unfolding stands_for rail_of
lowest_there = refl

pub highest_there : rail_of highest ≡ Highest
unfolding stands_for rail_of
highest_there = refl

pub elsewhere : (z : ℤ) → (z ≡ lowest → ⊥) → (z ≡ highest → ⊥) → rail_of z ≡ Neither
unfolding stands_for rail_of
elsewhere z low high = simp (ne_eq_z z lowest low, ne_eq_z z highest high)

stands_for_it : (z : ℤ) → stands_for (rail_of z) z ≡ true
unfolding stands_for rail_of
stands_for_it z =
    split (eq_z z lowest) (λ l. simp l)
    (λ l. split (eq_z z highest) (λ h. simp (l, h)) (λ h. simp (l, h)))

stands_alone : (rail : Rail) (z : ℤ) → stands_for rail z ≡ true → rail_of z ≡ rail
unfolding stands_for rail_of
stands_alone Neither z e = let b = and_both (not (eq_z z lowest)) (not (eq_z z highest)) e in simp (not-true (eq_z z lowest) b.0, not-true (eq_z z highest) b.1)
stands_alone Lowest z e = simp e
stands_alone Highest z e = ap rail_of (eq_z_true z highest e) ∙ highest_there

-- the way back from a rail's number
abbrev rail_named : ℕ → Rail
rail_named zero = Neither
rail_named (suc zero) = Lowest
rail_named (suc (suc n)) = Highest

number_named : (rail : Rail) → rail_named (rail_number rail) ≡ rail
number_named Neither = refl
number_named Lowest = refl
number_named Highest = refl

number_names : (rail other : Rail) → rail_number rail ≡ rail_number other → rail ≡ other
number_names rail other e = sym (number_named rail) ∙ ap rail_named e ∙ number_named other

-- a rail that stands for its end of the range alone
only_at : (rail : Rail) (end beyond : ℤ) (high middle low : ℕ)
    → rail_of end ≡ rail → ((z : ℤ) → stands_for rail z ≡ true → z ≡ end)
    → in_range end ≡ true → in_range beyond ≡ false
    → code_of (word high middle low) ≡ end → word_bytes (word_of end) ≡ high ∷ middle ∷ low ∷ []
    → OnlyAt rail end beyond high middle low
only_at rail end beyond high middle low there alone in_range_lem none_beyond code bytes =
    let nowhere : (z : ℤ) → rail_of z ≡ rail → z ≡ end = λ z e. alone z (rw e at (stands_for_it z)) in
    record {
      there = there;
      nowhere_else = nowhere;
      in_range_lem = in_range_lem;
      none_beyond = none_beyond;
      bytes_there = ap rail_of code ∙ there;
      no_other_bytes = λ a b c ha hb hc e. sym (codec.bytes_code a b c ha hb hc) ∙ ap (λ (z : ℤ). word_bytes (word_of z)) (nowhere _ e) ∙ bytes;
    }

pub rails_exact : RailsExact
unfolding in_range word_of code_of word word_bytes stands_for
rails_exact = record {
  at_lowest = only_at Lowest lowest (pred_ℤ lowest) 0x80 0x00 0x00 lowest_there (λ z. eq_z_true z lowest) refl refl refl refl;
  at_highest = only_at Highest highest (suc_ℤ highest) 0x7F 0xFF 0xFF highest_there (λ z. eq_z_true z highest) refl refl refl refl;
  stands_for_it = stands_for_it;
  stands_alone = stands_alone;
  number_names = number_names;
}
