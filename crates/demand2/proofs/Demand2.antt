-- Demand 2: the plan's bytes end in the state that the planner answers (Sent), and of that state the laws of settings say the rest.
use mathlib.Core.Path.{◌≡◌, refl, sym, ◌∙◌}
use mathlib.Core.Bool.{true, false}
use Rattle.refusal.specs.First.{accepted}
use Rattle.refusal.proofs.First.{exact}
use Rattle.ads1299.specs.declared.Converter.{Converter}
use Rattle.ads1299.specs.Formed.{Formed}
use Rattle.ads1299_settings.specs.Registers.{field_of}
use Rattle.ads1299_settings.proofs.Settings.{unset_values}
use Rattle.planner.specs.Submission.{Submission}
use Rattle.planner.specs.Settings.{setting_at, settings}
use Rattle.planner.specs.Plan.{registers_after}
use Rattle.planner.specs.Refusals.{refusals, judged}
use Rattle.planner.specs.Planned.{refusal_of, changed, plan, planned}
use Rattle.demand2.specs.Demand2.{sent, Fulfilled, Refused, Demand2}
use Rattle.planner.proofs.Accepted.{number_is, accepted_is, refused_is, passed, all_written, changed_valid}
use Rattle.planner.proofs.Settings.{name_at, value_at}
use Rattle.planner.proofs.Length.{plan_length_lem}
use Rattle.demand2.proofs.Modes.{no_refusals}
use Rattle.demand2.proofs.Sent.{sent_plan}

module _ (s : Converter) (x : Submission) where
  fulfilled : Formed s → accepted (refusal_of s x) ≡ true → Fulfilled s x
  unfolding plan planned changed registers_after
  fulfilled h a =
      let p = passed s x a in
      let r = x.request in
      let w = all_written s x h p in
      let c : (planned s x).next ≡ changed s r = rw a in
      let e : sent s x ≡ changed s r = sent_plan s h x ∙ c in
      record {
        unrefused = no_refusals (plan s x) s p.state;
        values = λ i lt. rw e (w.fields (setting_at r i).field r.channel (name_at r r.channel p.names i lt) ∙ value_at r r.channel i (field_of s.registers) lt);
        fields = λ f n k ne. rw e (w.fields f n k ∙ unset_values (settings r) (field_of s.registers) r.channel f n ne);
        others = λ j t. rw e (w.others j t);
        rest = rw e;
        next = c ∙ sym e;
        passes = rw c (changed_valid s x h p);
        counted = rw a (sym (plan_length_lem s r));
      }

  refused : accepted (refusal_of s x) ≡ false → Refused s x
  unfolding plan planned
  refused f = record { next = rw f; counted = rw f; bytes = rw f }

pub demand2 : Demand2
unfolding refusal_of judged
demand2 s h x =
    record {
      first = number_is s x;
      exact = exact (refusals s (field_of s.registers) x) refl;
      fulfilled = λ z. fulfilled s x h (accepted_is s x z);
      refused = λ z. refused s x (refused_is s x z);
    }
