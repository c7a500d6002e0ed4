-- Any two merges of the parties' lists agree: cell by cell, since a cell goes by its owner's requests alone, and not by exchanging neighbours
-- in a merge, which would be longer and say less.
use Prim.Native.Nat.{ℕ}
use mathlib.Core.Path.{◌≡◌, refl, sym, ◌∙◌}
use mathlib.Core.Bool.{true, false≢true}
use mathlib.Core.List.{List, [], ◌∷◌}
use borrow.Author.Tests.{eq-eqb}
use lib.Dec.{eqb}
use Rattle.cases.proofs.Cases.{split}
use Rattle.refusal.specs.First.{accepted}
use Rattle.ads1299.specs.declared.Converter.{Converter}
use Rattle.ads1299.specs.Formed.{Formed}
use Rattle.ads1299_fields.specs.Names.{named}
use Rattle.ads1299_settings.specs.Registers.{field_of}
use Rattle.ads1299_settings.proofs.Registers.{same_registers}
use Rattle.planner.specs.Submission.{Submission}
use Rattle.planner.specs.Refusals.{field_owner}
use Rattle.planner.specs.Planned.{planned}
use Rattle.planner.proofs.Accepted.{next}
use Rattle.isolation.specs.Reference.{first_cells, reference_numbers, reference_cells}
use Rattle.isolation.specs.Lists.{numbers, end, touched}
use Rattle.isolation.specs.Merges.{Lists, answers_to, Merge, last_accepted}
use Rattle.isolation.specs.Demand3.{MergesAgree}
use Rattle.isolation.proofs.Held.{held_first}
use Rattle.isolation.proofs.OneList.{held_end, follows_reference}
use Rattle.isolation.proofs.Own.{own_cells, own_numbers, same_bit, cell_last}
use Rattle.isolation.proofs.Plans.{made, both_made}

-- whether a request was accepted, by the parties' numbers
touched_from : (p : ℕ) (l : List Submission) (ns : List ℕ) → touched (answers_to p l ns) ≡ true → touched ns ≡ true
unfolding touched answers_to
touched_from p [] ns e = absurd (false≢true e)
touched_from p (x ∷ l) [] e = e
touched_from p (x ∷ l) (n ∷ ns) e =
    let ih = touched_from p l ns in
    split (accepted n) (λ a. rw a) (λ a. rw a (split (eqb x.party p) (λ b. ih (rw (b, a) at e)) (λ b. ih (rw b at e))))

some_party : (l : List Submission) (s : Converter) → touched (numbers s l) ≡ true → (p : ℕ) × (touched (answers_to p l (numbers s l)) ≡ true)
unfolding touched answers_to numbers
some_party [] s e = (0, e)
some_party (x ∷ l) s e =
    let ih = some_party l (next s x) in
    split (accepted (planned s x).refusal) (λ a. (x.party, rw (eq-eqb x.party x.party refl, a)))
    (λ a.
    let w = ih (rw a at e) in
    (w.0, split (eqb x.party w.0) (λ b. rw (b, a) w.1) (λ b. rw b w.1)))

touched_same : (s : Converter) (l m : List Submission) → ((p : ℕ) → answers_to p l (numbers s l) ≡ answers_to p m (numbers s m))
    → touched (numbers s l) ≡ touched (numbers s m)
touched_same s l m e =
    split (touched (numbers s l)) (λ a. a ∙ sym (half l m e a))
    (λ a. split (touched (numbers s m)) (λ b. half m l (λ p. sym (e p)) b ∙ sym b) (λ b. a ∙ sym b))
  where
    half : (x y : List Submission) → ((p : ℕ) → answers_to p x (numbers s x) ≡ answers_to p y (numbers s y)) → touched (numbers s x) ≡ true → touched (numbers s y) ≡ true
    half x y q z = let w = some_party x s z in touched_from w.0 y (numbers s y) (rw (q w.0) at w.1)

module _ (s : Converter) (h : Formed s) (lists : Lists) where
  numbers_of : (l : List Submission) → Merge lists l → (p : ℕ) → answers_to p l (numbers s l) ≡ reference_numbers s (lists p)
  numbers_of l m p =
      rw (follows_reference s h l).reference_numbers_lem (own_numbers s p l (first_cells s) (first_cells s) (λ f n k o. refl) ∙ rw (m p))

  cell_of : (l : List Submission) → Merge lists l → (f n : ℕ) → named f n ≡ true
      → reference_cells s l f n ≡ reference_cells s (lists (field_owner s.owners f n)) f n
  cell_of l m f n k =
      own_cells s (field_owner s.owners f n) l (first_cells s) (first_cells s) (λ g o z y. refl) f n k refl ∙ rw (m (field_owner s.owners f n))

  -- every bit has one owner
  registers_same : (l m : List Submission) → Merge lists l → Merge lists m → (end s l).registers ≡ (end s m).registers
  registers_same l m ml mm =
      let k = held_end l s s (first_cells s) (held_first s h) in
      let j = held_end m s s (first_cells s) (held_first s h) in
      same_registers (end s l).registers (end s m).registers (k.formed.registers.size ∙ sym j.formed.registers.size)
      k.formed.registers.bytes j.formed.registers.bytes
      (λ r i. same_bit s (end s l) (end s m) (reference_cells s l) (reference_cells s m) k j r i
      (λ f n z inside. cell_of l ml f n z ∙ sym (cell_of m mm f n z)))

pub merges_agree : MergesAgree
unfolding last_accepted
merges_agree s h lists l m ml mm =
    let c = follows_reference s h l in
    let d = follows_reference s h m in
    let same : (p : ℕ) → answers_to p l (numbers s l) ≡ answers_to p m (numbers s m) = λ p. numbers_of s h lists l ml p ∙ sym (numbers_of s h lists m mm p) in
    let cell : (f n : ℕ) → named f n ≡ true → field_of (end s l).registers f n ≡ reference_cells s (lists (field_owner s.owners f n)) f n =
    λ f n k. c.fields f n k ∙ cell_of s h lists l ml f n k in
    record {
      same_numbers = same;
      own_numbers = numbers_of s h lists l ml;
      same_end = c.all_else ∙ rw (registers_same s h lists l m ml mm, touched_same s l m same) (sym d.all_else);
      owners_last = λ f n k. cell f n k
          ∙ rw (numbers_of s h lists l ml (field_owner s.owners f n)) (cell_last s (lists (field_owner s.owners f n)) (first_cells s) f n);
      owners_cell = cell;
      same_plans = λ p. rw (numbers_of s h lists l ml p)
          (both_made s p (rw (ml p) at (made s p l s (first_cells s) (first_cells s) (held_first s h) (λ f n k o. refl)))
          (rw (mm p) at (made s p m s (first_cells s) (first_cells s) (held_first s h) (λ f n k o. refl))));
    }
