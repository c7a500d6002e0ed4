-- Refusals hand back the bytes that they were given: what demand 1 says of each entry point, through the flat form.
use Prim.Native.Nat.{ℕ}
use mathlib.Core.Path.{◌≡◌, refl, sym, ap, ◌∙◌}
use mathlib.Core.Bool.{true, false}
use mathlib.Core.List.{List}
use Rattle.cases.proofs.Cases.{split}
use Rattle.refusal.specs.First.{accepted}
use Rattle.ads1299.specs.declared.Converter.{Converter}
use Rattle.ads1299.specs.Answers.{Moved}
use Rattle.ads1299.specs.Answers.{Stepped}
use Rattle.ads1299.specs.Step.{stepped}
use Rattle.ads1299.specs.Deselect.{deselected}
use Rattle.ads1299.specs.Sample.{sampled}
use Rattle.grants.specs.Grant.{granted}
use Rattle.planner.specs.Answers.{Planned}
use Rattle.planner.specs.Submission.{Submission}
use Rattle.planner.specs.Planned.{planned}
use Rattle.planner.specs.Buffer.{tx_after}
use Rattle.demand1.proofs.Demand1.{demand1, kept_by}
use Rattle.flat.specs.declared.FlatConverter.{FlatConverter}
use Rattle.flat.specs.Flat.{flat}
use Rattle.flat.specs.States.{is_state, state_of}
use Rattle.flat.proofs.RoundTrip.{round_trip}
use Rattle.capi.specs.Answers.{stepped_from, moved_from, planned_from, buffer_from}
use Rattle.capi.specs.Claims.{HandsBack}

-- a state that was kept, in its flat form
flat_kept : (f : FlatConverter) (next : Converter) → is_state f ≡ true → next ≡ state_of f → flat next ≡ f
flat_kept f next stands e = ap flat e ∙ round_trip.returns_flat f stands

moved_kept : (f : FlatConverter) (a : Moved) → (accepted a.refusal ≡ false → a.next ≡ state_of f)
    → accepted (moved_from f a).refusal ≡ false → (moved_from f a).next ≡ f
unfolding moved_from
moved_kept f a kept = split (is_state f) (λ v. rw v (λ e. flat_kept f a.next v (kept e))) (λ v. rw v (λ e. refl))

-- what the entry points below hand back
next_of : Moved → Converter
next_of a = a.next

module _ (f : FlatConverter) where
  step_kept : (byte : ℕ) → accepted (stepped (state_of f) byte).refusal ≡ false → (stepped (state_of f) byte).next ≡ state_of f
  step_kept byte e = ap (λ (a : Stepped). a.next) (kept_by (demand1.step (state_of f) byte) e)

  plan_kept : (x : Submission) → accepted (planned (state_of f) x).refusal ≡ false → (planned (state_of f) x).next ≡ state_of f
  plan_kept x e = ap (λ (a : Planned). a.next) (kept_by (demand1.plan (state_of f) x) e)

  tx_kept : (x : Submission) (tx : List ℕ) (at : ℕ) → accepted (planned (state_of f) x).refusal ≡ false → tx_after (state_of f) x tx at ≡ tx
  tx_kept x tx at e = demand1.tx_kept (state_of f) x tx at (ap accepted (sym (demand1.plan (state_of f) x).number) ∙ e)

pub hands_back : HandsBack
unfolding stepped_from planned_from buffer_from next_of
hands_back =
    record {
      steps = λ f byte. split (is_state f) (λ v. rw v (λ e. flat_kept f _ v (step_kept f byte e))) (λ v. rw v (λ e. refl));
      deselects = λ f. moved_kept f (deselected (state_of f)) (λ e. ap next_of (kept_by (demand1.deselect (state_of f)) e));
      samples = λ f codes p n. moved_kept f (sampled (state_of f) codes p n) (λ e. ap next_of (kept_by (demand1.sample (state_of f) codes p n) e));
      grants = λ f caller receiver channel. moved_kept f (granted (state_of f) caller receiver channel)
          (λ e. ap next_of (kept_by (demand1.grant (state_of f) caller receiver channel) e));
      plans = λ f x. split (is_state f) (λ v. rw v (λ e. flat_kept f _ v (plan_kept f x e))) (λ v. rw v (λ e. refl));
      plan_buffers = λ f x tx at. split (is_state f) (λ v. rw v (λ e. tx_kept f x tx at e)) (λ v. rw v (λ e. refl));
      request_buffers = λ r buffer e. demand1.buffer_kept r buffer (ap accepted (sym (demand1.write_request r buffer).number) ∙ e);
    }
