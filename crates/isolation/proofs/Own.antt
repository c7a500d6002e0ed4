-- A party's own cells and bits go by its own requests alone: two runs of the reference model side by side that agree in that party's cells.
use Prim.Native.Nat.{ℕ}
use mathlib.Core.Path.{◌≡◌, refl, sym, ◌∙◌, ap}
use mathlib.Core.Logic.{◌⊎◌, inl, inr}
use mathlib.Core.Bool.{Bool, true, false, cond}
use mathlib.Core.List.{List, [], ◌∷◌, ◌++◌, get_last_d, get_last-cons, cons-ne-nil}
use borrow.Author.Tests.{not-false, eqb-true, eqb-false}
use lib.Dec.{eqb}
use Rattle.cases.proofs.Cases.{split, and_both}
use Rattle.cases.proofs.Every.{both}
use Rattle.refusal.specs.First.{accepted}
use Rattle.refusal.proofs.First.{exact}
use Rattle.ads1299.specs.declared.Converter.{Converter}
use Rattle.ads1299_fields.specs.Names.{named}
use Rattle.ads1299_fields.specs.Places.{place, apart, bit_at}
use Rattle.ads1299_settings.specs.Registers.{read_at, field_of}
use Rattle.ads1299_fields.specs.Layout.{same, Free, InField}
use Rattle.ads1299_fields.proofs.Apart.{free_or_in}
use Rattle.ads1299_settings.specs.Settings.{Setting, Values, with_value, with_values}
use Rattle.ads1299_settings.proofs.Registers.{bit_of}
use Rattle.ads1299_settings.proofs.Settings.{same_values, unset_values}
use Rattle.planner.specs.Submission.{Submission}
use Rattle.planner.specs.Settings.{settings, sets_field}
use Rattle.planner.specs.Refusals.{field_owner, refusals, judged}
use Rattle.planner.proofs.Settings.{one_owner_lem}
use Rattle.isolation.specs.Reference.{cells_after, cells_from, numbers_from}
use Rattle.isolation.specs.Merges.{from, answers_to, values_for, accepted_values, Own}
use Rattle.isolation.proofs.Held.{judged_own, Held}

-- two models have the same in a party's own cells
abbrev pub SameOwn : Converter → ℕ → Values → Values → Type 0
SameOwn s p c d = (f n : ℕ) → named f n ≡ true → field_owner s.owners f n ≡ p → c f n ≡ d f n

-- what the reference model accepts comes from the owner
owner_is : (s : Converter) (c : Values) (x : Submission) → accepted (judged s c x) ≡ true
    → x.party ≡ field_owner s.owners x.request.field x.request.channel
unfolding judged
owner_is s c x e =
    eqb-true _ _
    (not-false (eqb x.party (field_owner s.owners x.request.field x.request.channel))
    ((exact (refusals s c x) refl).refuses (eqb-true (judged s c x) 0 e)).1.1.1.1.0)

-- a bit goes by the cell of the field that has it
pub same_bit : (s t u : Converter) (c d : Values) → Held s t c → Held s u d → (r i : ℕ)
    → ((f n : ℕ) → named f n ≡ true → apart (place f n) (bit_at r i) ≡ false → c f n ≡ d f n)
    → read_at t.registers (bit_at r i) ≡ read_at u.registers (bit_at r i)
unfolding field_of
same_bit s t u c d kt ku r i same = go (free_or_in r i)
  where
    go : Free r i ⊎ InField r i → read_at t.registers (bit_at r i) ≡ read_at u.registers (bit_at r i)
    go (inl free) = kt.free r i free ∙ sym (ku.free r i free)
    go (inr (f, n, k, inside)) =
        let e : field_of t.registers f n ≡ field_of u.registers f n = kt.cells f n k ∙ same f n k inside ∙ sym (ku.cells f n k) in
        bit_of t.registers (place f n) r i inside ∙ rw e (sym (bit_of u.registers (place f n) r i inside))

module _ (s : Converter) (p : ℕ) where
  -- the party's own request
  pub own_step : (c d : Values) (x : Submission) → x.party ≡ p → SameOwn s p c d → SameOwn s p (cells_after s c x) (cells_after s d x)
  unfolding cells_after
  own_step c d x e same f n k o =
      let g = x.request in
      rw (judged_own s c d x (λ g m h z. same g m h (z ∙ e)), same f n k o)
      (ap (λ (v : ℕ). cond (accepted (judged s d x)) v (d f n)) (same_values (settings g) c d g.channel f n (same f n k o)))

  -- another party's request sets none of the party's cells
  not_set : (c : Values) (x : Submission) → eqb x.party p ≡ false → accepted (judged s c x) ≡ true → (f n : ℕ) → field_owner s.owners f n ≡ p
      → sets_field x.request f n ≡ false
  not_set c x e a f n o =
      let r = x.request in
      let owns : Setting → Bool = λ y. eqb (field_owner s.owners y.field r.channel) (field_owner s.owners r.field r.channel) in
      split (sets_field r f n)
      (λ q.
      let w = both owns (λ (y : Setting). same y.field r.channel f n) (settings r) (one_owner_lem s.owners r) q in
      let b = and_both (eqb w.0.field f) (eqb r.channel n) w.2 in
      let his : field_owner s.owners w.0.field r.channel ≡ p = rw (eqb-true w.0.field f b.0, eqb-true r.channel n b.1) o in
      absurd (eqb-false x.party p e (owner_is s c x a ∙ sym (eqb-true _ _ w.1) ∙ his)))
      (λ q. q)

  pub other_step : (c d : Values) (x : Submission) → eqb x.party p ≡ false → SameOwn s p c d → SameOwn s p (cells_after s c x) d
  unfolding cells_after
  other_step c d x e same f n k o =
      split (accepted (judged s c x))
      (λ a. rw a (unset_values (settings x.request) c x.request.channel f n (not_set c x e a f n o) ∙ same f n k o))
      (λ a. rw a (same f n k o))

  pub own_cells : (l : List Submission) (c d : Values) → SameOwn s p c d → SameOwn s p (cells_from s c l) (cells_from s d (from p l))
  unfolding cells_from from
  own_cells [] c d same = same
  own_cells (x ∷ l) c d same =
      let one = own_cells l (cells_after s c x) (cells_after s d x) in
      let other = own_cells l (cells_after s c x) d in
      split (eqb x.party p) (λ e. rw e (one (own_step c d x (eqb-true x.party p e) same))) (λ e. rw e (other (other_step c d x e same)))

  pub own_numbers : (l : List Submission) (c d : Values) → SameOwn s p c d → answers_to p l (numbers_from s c l) ≡ numbers_from s d (from p l)
  unfolding numbers_from from answers_to
  own_numbers [] c d same = refl
  own_numbers (x ∷ l) c d same =
      let one = own_numbers l (cells_after s c x) (cells_after s d x) in
      let other = own_numbers l (cells_after s c x) d in
      split (eqb x.party p)
      (λ e.
      let q = eqb-true x.party p e in
      rw (e, judged_own s c d x (λ f n k o. same f n k (o ∙ q)), one (own_step c d x q same)))
      (λ e. rw e (other (other_step c d x e same)))

  -- a bit that no other party's field has
  pub own_bit : (t u : Converter) (c d : Values) → Held s t c → Held s u d → SameOwn s p c d → (r i : ℕ) → Own s p r i
      → read_at t.registers (bit_at r i) ≡ read_at u.registers (bit_at r i)
  own_bit t u c d kt ku same r i own = same_bit s t u c d kt ku r i (λ f n k inside. same f n k (own f n k inside))

-- a cell is the last value that was accepted for it
last_cons : (v first : ℕ) (values : List ℕ) → get_last_d (v ∷ values) first ≡ get_last_d values v
unfolding get_last_d
last_cons v first [] = refl
last_cons v first (w ∷ values) = get_last-cons v (cons-ne-nil w values)

pub last_append : (xs ys : List ℕ) (first : ℕ) → get_last_d (xs ++ ys) first ≡ get_last_d ys (get_last_d xs first)
last_append [] ys first = unfold get_last_d in refl
last_append (v ∷ xs) ys first = last_cons v first (xs ++ ys) ∙ last_append xs ys v ∙ rw (last_cons v first xs)

pub last_value : (given : List Setting) (c : Values) (m f n : ℕ) → with_values c m given f n ≡ get_last_d (values_for m given f n) (c f n)
unfolding with_values values_for
last_value [] c m f n = unfold get_last_d in refl
last_value (a ∷ rest) c m f n =
    let ih = last_value rest (with_value c m a) m f n in
    split (same a.field m f n)
    (λ q. rw q (ih ∙ rw q (sym (last_cons a.value (c f n) (values_for m rest f n)))))
    (λ q. rw q (ih ∙ rw q))

pub cell_last : (s : Converter) (l : List Submission) (c : Values) (f n : ℕ)
    → cells_from s c l f n ≡ get_last_d (accepted_values f n l (numbers_from s c l)) (c f n)
unfolding cells_from numbers_from accepted_values
cell_last s [] c f n = unfold get_last_d in refl
cell_last s (x ∷ l) c f n =
    let ih = cell_last s l (cells_after s c x) f n in
    let r = x.request in
    let later = accepted_values f n l (numbers_from s (cells_after s c x) l) in
    split (accepted (judged s c x))
    (λ e.
    ih ∙ unfold cells_after in rw e
    (ap (get_last_d later) (last_value (settings r) c r.channel f n)
    ∙ sym (last_append (values_for r.channel (settings r) f n) later (c f n))))
    (λ e. ih ∙ unfold cells_after in rw e)
