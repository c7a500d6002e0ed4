-- The table's rows at every number.
use Rattle.std.specs.Prelude.{Option, None, Some}
use mathlib.Core.Path.{◌≡◌, refl, sym, ◌∙◌}
use mathlib.Core.Bool.{true, false}
use Prim.Native.Nat.{ℕ, ◌+◌, ◌^◌, ◌≤◌, ◌<◌}
use native.Mathlib.Omega.{arith}
use Rattle.std.specs.Option.{option_eq}
use lib.Dec.{ltb, leb, eqb}
use lib.ListN.{get_or-eq_default}
use borrow.Author.Tests.{leb-true, leb-false, ltb-true, eqb-true, ne_eqb}
use Rattle.std.proofs.Math.Nat.{pow-le-pow_right}
use Rattle.std.proofs.lemmas.Bool.Decides.{nat_tests}
use Rattle.cases.proofs.Cases.{split}
use Rattle.cases.proofs.Below.{below_at}
use Rattle.ads1299_fields.specs.declared.Entry.{Entry}
use Rattle.ads1299_fields.specs.Table.{none_refused, no_row, table, row_of, entry_of, entry_at}
use Rattle.ads1299_fields.specs.Names.{field_count, is_field}
use Rattle.ads1299_fields.specs.Values.{fits}

pub no_row_lem : (f : ℕ) → field_count < f → row_of f ≡ no_row
unfolding row_of table
no_row_lem f lt = get_or-eq_default table no_row lt

pub row_width : (f : ℕ) → (row_of f).width ≤ 8
unfolding row_of table
row_width f =
    split (leb f field_count)
    (λ e. leb-true _ _ (below_at (field_count + 1) (λ g. leb (row_of g).width 8) refl f (omega (arith, leb-true f field_count e))))
    (λ e. rw (no_row_lem f (leb-false f field_count e)) (omega arith))

-- what a look-up that gives a row tells
pub record Known (f : ℕ) (e : Entry) : Type 0 where
  pub field : is_field f ≡ true
  pub same : e ≡ entry_of (row_of f)
  pub narrow : e.width ≤ 8

pub known : (f : ℕ) (e : Entry) (r : Option Entry) → r ≡ entry_at f → r ≡ Some e → Known f e
known f e r is some =
    split (is_field f)
    (λ t.
    let s : Some e ≡ Some (entry_of (row_of f)) = sym some ∙ is ∙ rw t in
    let same : e ≡ entry_of (row_of f) = cc in
    record { field = t; same = same; narrow = rw same (row_width f) })
    (λ t. let s : Some e ≡ None = sym some ∙ is ∙ rw t in absurd (cc))

-- what a look-up that gives none tells
pub unknown : (f : ℕ) (r : Option Entry) → r ≡ entry_at f → r ≡ None → is_field f ≡ false
unknown f r is none =
    split (is_field f) (λ t. let s : None ≡ Some (entry_of (row_of f)) = sym none ∙ is ∙ rw t in absurd (cc)) (λ t. t)

pub fits_row : (f v : ℕ) (e : Entry) → Known f e → ltb v (2 ^ e.width) ≡ fits f v
unfolding fits
fits_row f v e k = simp k.same

turned : (m n : ℕ) → eqb m n ≡ eqb n m
turned m n = grind (arith, nat_tests)

-- what the code holds of the refused value says the same, where the value fits
pub refused_row : (f v : ℕ) (e : Entry) → Known f e → ltb v (2 ^ e.width) ≡ true → option_eq eqb e.refused (Some v) ≡ eqb v (row_of f).refused
refused_row f v e k t =
    let x = (row_of f).refused in
    let most : 2 ^ e.width ≤ 2 ^ 8 = pow-le-pow_right (omega arith) k.narrow in
    let small : v < none_refused = omega (arith, ltb-true v _ t, most) in
    rw k.same
    (split (eqb x none_refused)
    (λ q. let e : x ≡ none_refused = eqb-true _ _ q in rw q (sym (ne_eqb v x (λ s. omega arith))))
    (λ q. rw q (turned x v)))
