-- What a state keeps through a list of requests, held to the first state and the reference model's cells: the invariant of every induction over a list.
use Prim.Native.Nat.{ℕ}
use mathlib.Core.Path.{◌≡◌, refl, ◌∙◌, ap}
use mathlib.Core.Bool.{true, cond}
use Rattle.cases.proofs.Cases.{split}
use Rattle.cases.proofs.Every.{follows}
use Rattle.refusal.specs.First.{accepted}
use Rattle.ads1299.specs.declared.Converter.{Converter}
use Rattle.ads1299.specs.State.{with_registers, with_output}
use Rattle.ads1299.specs.Formed.{Formed}
use Rattle.ads1299_fields.specs.Names.{named}
use Rattle.ads1299_fields.specs.Places.{place, apart, bit_at}
use Rattle.ads1299_settings.specs.Registers.{read_at, field_of}
use Rattle.ads1299_fields.specs.Layout.{Free}
use Rattle.ads1299_settings.specs.Settings.{Setting, Values, with_values}
use Rattle.ads1299_settings.proofs.Settings.{same_values}
use Rattle.planner.specs.Submission.{Submission}
use Rattle.planner.specs.Settings.{settings}
use Rattle.planner.specs.Plan.{registers_after}
use Rattle.planner.specs.Refusals.{field_owner, judged}
use Rattle.planner.specs.Planned.{refusal_of, changed, planned}
use Rattle.planner.proofs.Accepted.{next, passed, all_written, next_formed, judged_next}
use Rattle.isolation.specs.Reference.{cells_after}

-- the refusals read of the fields' values the sender's own alone
pub judged_own : (s : Converter) (v w : Values) (x : Submission)
    → ((f n : ℕ) → named f n ≡ true → field_owner s.owners f n ≡ x.party → v f n ≡ w f n) → judged s v x ≡ judged s w x
unfolding judged
judged_own s v w x same = refl

-- state t, reached from s, where the cells are c
pub record Held (s t : Converter) (c : Values) : Type 0 where
  pub formed : Formed t
  pub judges : judged t ≡ judged s
  pub cells : (f n : ℕ) → named f n ≡ true → field_of t.registers f n ≡ c f n
  pub free : (r i : ℕ) → Free r i → read_at t.registers (bit_at r i) ≡ read_at s.registers (bit_at r i)
  pub rest : t ≡ with_output (with_registers s t.registers) t.output

pub held_first : (s : Converter) → Formed s → Held s s (field_of s.registers)
held_first s h = record { formed = h; judges = refl; cells = λ f n k. refl; free = λ r i k. refl; rest = refl }

module _ (t : Converter) (h : Formed t) (x : Submission) where
  field_next : (f n : ℕ) → named f n ≡ true
      → field_of (next t x).registers f n
      ≡ cond (accepted (refusal_of t x)) (with_values (field_of t.registers) x.request.channel (settings x.request) f n) (field_of t.registers f n)
  unfolding planned changed registers_after
  field_next f n k = split (accepted (refusal_of t x)) (λ e. rw (e, next) ((all_written t x h (passed t x e)).fields f n k)) (λ e. rw (e, next))

  free_next : (r i : ℕ) → Free r i → read_at (next t x).registers (bit_at r i) ≡ read_at t.registers (bit_at r i)
  unfolding planned changed registers_after
  free_next r i k =
      let n = x.request.channel in
      split (accepted (refusal_of t x))
      (λ e.
      let p = passed t x e in
      rw (e, next) ((all_written t x h p).others (bit_at r i)
      (follows (λ (a : Setting). named a.field n) (λ (a : Setting). apart (place a.field n) (bit_at r i)) (λ a. k a.field n) (settings x.request) p.names)))
      (λ e. rw (e, next))

rest_next : (t : Converter) (x : Submission) → next t x ≡ with_output (with_registers t (next t x).registers) (next t x).output
unfolding planned changed
rest_next t x = split (accepted (refusal_of t x)) (λ e. rw (e, next)) (λ e. rw (e, next))

module _ (s t : Converter) (c : Values) (k : Held s t c) (x : Submission) where
  -- the number is the reference model's
  pub refusal_is : refusal_of t x ≡ judged s c x
  unfolding refusal_of
  refusal_is = rw k.judges (judged_own s (field_of t.registers) c x (λ f n name own. k.cells f n name))

  pub held_next : Held s (next t x) (cells_after s c x)
  unfolding cells_after
  held_next =
      record {
        formed = next_formed t x k.formed;
        judges = judged_next t x k.formed ∙ k.judges;
        cells = λ f n name.
            rw (field_next t k.formed x f n name, refusal_is, k.cells f n name)
            (ap (λ (v : ℕ). cond (accepted (judged s c x)) v (c f n))
            (same_values (settings x.request) (field_of t.registers) c x.request.channel f n (k.cells f n name)));
        free = λ r i z. free_next t k.formed x r i z ∙ k.free r i z;
        rest = rest_next t x ∙ ap (λ (u : Converter). with_output (with_registers u (next t x).registers) (next t x).output) k.rest;
      }
