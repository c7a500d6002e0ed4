-- What an accepted request has passed, and that it changes no later judgement.
use Prim.Native.Nat.{◌≤◌}
use mathlib.Core.Path.{◌≡◌, refl, sym, ◌∙◌, fun_ext}
use mathlib.Core.Bool.{true, false, not, false≢true}
use native.Mathlib.Omega.{arith}
use borrow.Author.Tests.{not-false, eqb-true, eq-eqb, ne_eqb, ltb-false}
use lib.Dec.{eqb}
use lib.ListN.{get_or}
use Rattle.cases.specs.Every.{every}
use Rattle.cases.proofs.Cases.{split}
use Rattle.cases.proofs.Every.{follows}
use Rattle.refusal.specs.Numbers.{none}
use Rattle.refusal.specs.First.{accepted}
use Rattle.refusal.proofs.First.{exact}
use Rattle.ads1299_registers.specs.Addresses.{ID}
use Rattle.ads1299_serial.specs.declared.Phase.{Phase}
use Rattle.ads1299_serial.specs.declared.Phase.TheVariants.{Waiting, Held, Counting}
use Rattle.ads1299_serial.specs.Transfers.{is_waiting}
use Rattle.ads1299.specs.declared.Converter.{Converter}
use Rattle.ads1299.specs.Formed.{Formed}
use Rattle.ads1299.specs.Validity.{valid}
use Rattle.ads1299.proofs.ValidState.{parts, whole}
use Rattle.parties.specs.Parties.{known_party}
use Rattle.ads1299_fields.specs.Names.{known_field, takes_channel, named}
use Rattle.ads1299_fields.specs.Places.{place}
use Rattle.ads1299_fields.proofs.Apart.{place_inside}
use Rattle.ads1299_settings.specs.Settings.{Setting, all_settable}
use Rattle.ads1299_settings.specs.Claims.{AllWritten}
use Rattle.ads1299_settings.proofs.Settings.{settings_written, register_kept}
use Rattle.request.specs.declared.Request.{Request}
use Rattle.planner.specs.Submission.{Submission}
use Rattle.planner.specs.Settings.{settings, all_legal}
use Rattle.planner.specs.Plan.{registers_after, plan_length}
use Rattle.planner.specs.Refusals.{field_owner, refusals, judged}
use Rattle.planner.specs.Planned.{refusal_of, changed, planned}
use Rattle.planner.proofs.Settings.{all_named, all_settable_lem}

-- the state that the planner answers
abbrev pub next : Converter → Submission → Converter
next s x = (planned s x).next

-- the number answered is the refusal
pub number_is : (s : Converter) (x : Submission) → (planned s x).refusal ≡ refusal_of s x
unfolding planned
number_is s x = split (accepted (refusal_of s x)) (λ e. rw e (sym (eqb-true _ _ e))) (λ e. rw e)

pub accepted_is : (s : Converter) (x : Submission) → (planned s x).refusal ≡ none → accepted (refusal_of s x) ≡ true
accepted_is s x z = eq-eqb _ _ (sym (number_is s x) ∙ z)

pub refused_is : (s : Converter) (x : Submission) → ((planned s x).refusal ≡ none → ⊥) → accepted (refusal_of s x) ≡ false
refused_is s x z = ne_eqb _ _ (λ e. z (number_is s x ∙ e))

-- what an accepted request has passed
pub record Passed (s : Converter) (x : Submission) : Type 0 where
  pub state : valid s ≡ true
  pub party : known_party x.party ≡ true
  pub takes : takes_channel x.request.field x.request.channel ≡ true
  pub owner : x.party ≡ field_owner s.owners x.request.field x.request.channel
  pub names : every (λ (a : Setting). named a.field x.request.channel) (settings x.request) ≡ true
  pub set : all_settable x.request.channel (settings x.request) ≡ true
  pub waits : s.phase ≡ Waiting
  pub room : plan_length s x.request ≤ x.room

pub waiting_is : (p : Phase) → is_waiting p ≡ true → p ≡ Waiting
waiting_is Waiting e = refl
waiting_is (Held t) e = absurd (false≢true e)
waiting_is (Counting t) e = absurd (false≢true e)

pub passed : (s : Converter) (x : Submission) → accepted (refusal_of s x) ≡ true → Passed s x
unfolding refusal_of judged
passed s x e =
    let r = x.request in
    let c = (exact (refusals s (λ f n. 0) x) refl).refuses (eqb-true (refusal_of s x) 0 e) in
    let takes = not-false (takes_channel r.field r.channel) c.1.1.1.0 in
    let names = all_named r (not-false (known_field r.field) c.1.1.0) takes in
    record {
      state = not-false (valid s) c.0;
      party = not-false (known_party x.party) c.1.0;
      takes = takes;
      owner = eqb-true _ _ (not-false (eqb x.party (field_owner s.owners r.field r.channel)) c.1.1.1.1.0);
      names = names;
      set = all_settable_lem r.channel (settings r) names (not-false (all_legal (settings r)) c.1.1.1.1.1.0);
      waits = waiting_is s.phase (not-false (is_waiting s.phase) c.1.1.1.1.1.1.0);
      room = ltb-false x.room (plan_length s r) c.1.1.1.1.1.1.1.0;
    }

-- the registers that an accepted request leaves
module _ (s : Converter) (x : Submission) (h : Formed s) (p : Passed s x) where
  pub all_written : AllWritten s.registers x.request.channel (settings x.request)
  all_written = settings_written s.registers x.request.channel (settings x.request) h.registers.size p.set

  id_kept : get_or (registers_after s.registers x.request) ID 0 ≡ get_or s.registers ID 0
  unfolding registers_after
  id_kept =
      register_kept (settings x.request) s.registers x.request.channel ID h.registers.size p.set
      (follows (λ (a : Setting). named a.field x.request.channel) (λ (a : Setting). not (eqb (place a.field x.request.channel).register ID))
      (λ a k. rw (ne_eqb (place a.field x.request.channel).register ID (λ z. omega (arith, (place_inside a.field x.request.channel k).after_id))))
      (settings x.request) p.names)

  changed_formed : Formed (changed s x.request)
  unfolding changed registers_after
  changed_formed =
      record {
        registers = record { size = all_written.size ∙ h.registers.size; bytes = all_written.bytes h.registers.bytes };
        owners = h.owners;
        latest = h.latest;
        shifting = h.shifting;
      }

  pub changed_valid : valid (changed s x.request) ≡ true
  unfolding changed
  changed_valid =
      let v = parts s p.state in
      whole _ (record { id = rw id_kept v.id; place = refl; phase = rw p.waits; owners = v.owners })

pub next_formed : (s : Converter) (x : Submission) → Formed s → Formed (next s x)
unfolding planned
next_formed s x h = split (accepted (refusal_of s x)) (λ e. rw (e, next) (changed_formed s x h (passed s x e))) (λ e. rw (e, next) h)

-- the tests read of a state its validity, owners, phase and modes alone
same_judged : (s : Converter) (r : Request) → valid (changed s r) ≡ valid s → judged (changed s r) ≡ judged s
unfolding judged changed
same_judged s r e = fun_ext (λ values. fun_ext (λ x. rw e))

pub judged_next : (s : Converter) (x : Submission) → Formed s → judged (next s x) ≡ judged s
unfolding planned
judged_next s x h =
    split (accepted (refusal_of s x))
    (λ e. let p = passed s x e in rw (e, next) (same_judged s x.request (changed_valid s x h p ∙ sym p.state)))
    (λ e. rw (e, next))
