-- Two plans of one request, made after lists that have the same earlier requests of its party: Made keeps, for each plan, a state whose own
-- cells of the party are those of the party alone.
use Prim.Native.Nat.{ℕ}
use mathlib.Core.Path.{◌≡◌, refl, sym, ◌∙◌, ap}
use mathlib.Core.Bool.{Bool, true, false, cond, not, ◌&&◌, ◌||◌}
use mathlib.Core.List.{List, [], ◌∷◌}
use borrow.Author.Tests.{eqb-true, eq-eqb, not-true}
use lib.Dec.{eqb}
use lib.ListN.{get_or}
use Rattle.cases.proofs.Cases.{split, and_both}
use Rattle.cases.proofs.Every.{both, every_both}
use Rattle.bits.proofs.Fields.{same_bits}
use Rattle.refusal.specs.First.{accepted}
use Rattle.ads1299.specs.declared.Converter.{Converter}
use Rattle.ads1299_fields.specs.Table.{table, row_of}
use Rattle.ads1299_fields.specs.Names.{channel_field, named, every_name}
use Rattle.ads1299_fields.specs.Places.{place, bit_at}
use Rattle.ads1299_settings.specs.Registers.{read_at}
use Rattle.ads1299_settings.specs.Settings.{Setting, Values}
use Rattle.ads1299_fields.proofs.Names.{every_at}
use Rattle.ads1299_fields.proofs.Apart.{has}
use Rattle.planner.proofs.Settings.{one_owner_lem}
use Rattle.planner.proofs.Runs.{same_writing}
use Rattle.planner.proofs.Coverage.{runs_cover}
use Rattle.planner.specs.Submission.{Submission}
use Rattle.planner.specs.Settings.{settings}
use Rattle.planner.specs.Runs.{runs, in_runs}
use Rattle.planner.specs.Refusals.{field_owner, judged}
use Rattle.planner.specs.Plan.{around, plan_writing, plan_of}
use Rattle.planner.specs.Planned.{refusal_of, changed, plan, planned}
use Rattle.planner.proofs.Accepted.{next, Passed, passed}
use Rattle.isolation.specs.Reference.{cells_after, numbers_from}
use Rattle.isolation.specs.Lists.{plans}
use Rattle.isolation.specs.Merges.{from, answers_to, Own, spread, Alike, AllAlike, no_plans, more_plans}
use Rattle.isolation.proofs.Held.{judged_own, Held, refusal_is, held_next}
use Rattle.isolation.proofs.Own.{SameOwn, own_step, other_step, own_bit}

-- a register that has no bits of several parties has one owner's fields alone: one computed test over every two names
abbrev one_owner : ℕ → ℕ → ℕ → ℕ → Bool
one_owner f n g m =
    spread (place f n).register || not (eqb (place g m).register (place f n).register)
    || cond (channel_field f) (channel_field g && eqb m n) (not (channel_field g))

register_owners : every_name (λ f n. every_name (one_owner f n)) ≡ true
unfolding every_name named place row_of table
register_owners = refl

register_owner : (owners : List ℕ) (f n g m : ℕ) → named f n ≡ true → named g m ≡ true → spread (place f n).register ≡ false → (place g m).register ≡ (place f n).register
    → field_owner owners g m ≡ field_owner owners f n
register_owner owners f n g m hf hg e r =
    let t = rw (e, eq-eqb (place g m).register (place f n).register r) at
    (every_at (one_owner f n) (every_at (λ f n. every_name (one_owner f n)) register_owners f n hf) g m hg) in
    split (channel_field f)
    (λ q. let b = and_both (channel_field g) (eqb m n) (rw q at t) in rw (q, b.0, eqb-true m n b.1))
    (λ q. rw (q, not-true (channel_field g) (rw q at t)))

-- a plan writes the registers that the request leaves, in the first state's modes
plan_is : (s t : Converter) (c d : Values) (x : Submission) → Held s t c → refusal_of t x ≡ judged s d x
    → plan t x ≡ cond (accepted (judged s d x)) (plan_writing s x.request (next t x).registers) []
unfolding plan planned changed plan_of plan_writing
plan_is s t c d x k e =
    rw (← e)
    (split (accepted (refusal_of t x))
    (λ q. rw (q, next, ap (λ (u : Converter). u.standby) k.rest, ap (λ (u : Converter). u.continuous) k.rest))
    (λ q. rw q))

-- a written register that has no bits of several parties has the sender's alone
own_register : (s t : Converter) (c : Values) (x : Submission) → Held s t c → Passed t x → (r : ℕ) → in_runs (runs x.request) r ≡ true → spread r ≡ false
    → (i : ℕ) → Own s x.party r i
own_register s t c x k p r inside e i f n name has_bit =
    let q = x.request in
    let names : Setting → Bool = λ a. named a.field q.channel in
    let owns : Setting → Bool = λ a. eqb (field_owner s.owners a.field q.channel) (field_owner s.owners q.field q.channel) in
    let w = both (λ a. names a && owns a) (λ (a : Setting). eqb (place a.field q.channel).register r) (settings q)
    (every_both names owns (settings q) p.names (one_owner_lem s.owners q)) ((runs_cover q p.takes).needed r inside) in
    let b = and_both (names w.0) (owns w.0) w.1 in
    let at : (place w.0.field q.channel).register ≡ r = eqb-true _ _ w.2 in
    register_owner s.owners w.0.field q.channel f n b.0 name (rw at e) (sym (has (place f n) r i has_bit).in_register ∙ sym at)
    ∙ eqb-true _ _ b.1
    ∙ ap (λ (u : Converter). field_owner u.owners q.field q.channel) (sym k.rest) ∙ sym p.owner

module _ (s : Converter) (d : Values) (x : Submission) where
  number_own : (t : Converter) (c : Values) → Held s t c → SameOwn s x.party c d → refusal_of t x ≡ judged s d x
  number_own t c k same = refusal_is s t c k x ∙ judged_own s c d x same

  module _ (t u : Converter) (b c : Values) (kt : Held s t b) (ku : Held s u c) (st : SameOwn s x.party b d) (su : SameOwn s x.party c d) where
    bits : (r i : ℕ) → Own s x.party r i → read_at (next t x).registers (bit_at r i) ≡ read_at (next u x).registers (bit_at r i)
    bits r i own =
        own_bit s x.party (next t x) (next u x) (cells_after s b x) (cells_after s c x) (held_next s t b kt x) (held_next s u c ku x)
        (own_step s x.party b c x refl (λ f n k o. st f n k o ∙ sym (su f n k o))) r i own

    registers : accepted (judged s d x) ≡ true → (r : ℕ) → in_runs (runs x.request) r ≡ true → spread r ≡ false
        → get_or (next t x).registers r 0 ≡ get_or (next u x).registers r 0
    unfolding read_at
    registers a r inside e =
        let p = passed t x (rw (number_own t b kt st) a) in
        same_bits 8 (get_or (next t x).registers r 0) (get_or (next u x).registers r 0)
        ((held_next s t b kt x).formed.registers.bytes r) ((held_next s u c ku x).formed.registers.bytes r)
        (λ i lt. bits r i (own_register s t b x kt p r inside e i))

    pub alike : Alike s x (judged s d x) (plan t x) (plan u x)
    unfolding plan_writing
    alike =
        let one = plan_is s t b d x kt (number_own t b kt st) in
        let other = plan_is s u c d x ku (number_own u c ku su) in
        record {
          one = (next t x).registers;
          other = (next u x).registers;
          first_is = one;
          second_is = other;
          own_bits = bits;
          own_registers = registers;
          same_plan = λ none.
              one ∙ split (accepted (judged s d x))
              (λ a. rw a (ap (λ (body : List ℕ). around s.standby s.continuous body)
              (same_writing (next t x).registers (next u x).registers (runs x.request) (λ r inside. registers a r inside (none r inside)))))
              (λ a. rw a) ∙ sym other;
        }

-- plans of p's requests, each made in a state whose own cells of p are those of p alone
pub data Made (s : Converter) (p : ℕ) : Values → List Submission → List (List ℕ) → Type 0 where
  done : {d : Values} → Made s p d [] []
  then : {d : Values} {l : List Submission} {x : Submission} {ps : List (List ℕ)} (t : Converter) (c : Values)
      → Held s t c → SameOwn s p c d → x.party ≡ p → Made s p (cells_after s d x) l ps → Made s p d (x ∷ l) (plan t x ∷ ps)

pub made : (s : Converter) (p : ℕ) (l : List Submission) (t : Converter) (c d : Values) → Held s t c → SameOwn s p c d
    → Made s p d (from p l) (answers_to p l (plans t l))
unfolding from plans answers_to
made s p [] t c d k same = done
made s p (x ∷ l) t c d k same =
    let one = made s p l (next t x) (cells_after s c x) (cells_after s d x) (held_next s t c k x) in
    let other = made s p l (next t x) (cells_after s c x) d (held_next s t c k x) in
    split (eqb x.party p)
    (λ q.
    let z = eqb-true x.party p q in
    rw q (then t c k same z (one (own_step s p c d x z same))))
    (λ q. rw q (other (other_step s p c d x q same)))

pub both_made : (s : Converter) (p : ℕ) {d : Values} {l : List Submission} {ps qs : List (List ℕ)}
    → Made s p d l ps → Made s p d l qs → AllAlike s l (numbers_from s d l) ps qs
unfolding numbers_from
both_made s p done done = no_plans
both_made s p (then {d = d} {x = x} t b kt st e y) (then u c ku su f z) =
    more_plans (alike s d x t u b c kt ku (rw e st) (rw e su)) (both_made s p y z)
