-- Refusals hand back the bytes that they were given: what demand 1 says of each entry point, through the flat form.
use Prim.Native.Nat.{ℕ}
use mathlib.Core.Path.{◌≡◌, refl, sym, ap, ◌∙◌}
use mathlib.Core.Bool.{true, false}
use mathlib.Core.List.{List}
use Rattle.cases.proofs.Cases.{split}
use Rattle.refusal.specs.First.{accepted}
use Rattle.splice.specs.Splice.{room_at}
use Rattle.demand1.proofs.Demand1.{kept_by}
use Rattle.ads7953.specs.Answers.{Framed}
use Rattle.ads7953.specs.Frame.{framed}
use Rattle.ads7953_list.specs.Answers.{ListPlanned}
use Rattle.ads7953_list.specs.Planned.{list_planned, list_tx_after}
use Rattle.ads7953_demand1.proofs.Demand1.{ads7953_demand1}
use Rattle.flat_ads7953.specs.declared.FlatAds7953.{FlatAds7953}
use Rattle.flat_ads7953.specs.Flat.{flat_part, is_part, part_of}
use Rattle.flat_ads7953.proofs.RoundTrip.{round_trip}
use Rattle.capi_ads7953.specs.Answers.{framed_from, list_planned_from, list_buffer_from}
use Rattle.capi_ads7953.specs.Claims.{HandsBack}

module _ (f : FlatAds7953) where
  frame_kept : (w code : ℕ) → is_part f ≡ true → accepted (framed (part_of f) w code).refusal ≡ false
      → ((framed (part_of f) w code).reply ≡ 0) × (flat_part (framed (part_of f) w code).next ≡ f)
  frame_kept w code v e =
      let k = kept_by (ads7953_demand1.frame (part_of f) w code) e in
      (ap (λ (a : Framed). a.reply) k, ap (λ (a : Framed). flat_part a.next) k ∙ round_trip.returns_flat f v)

  tx_kept : (party list : ℕ) (tx : List ℕ) (at : ℕ) → accepted (list_planned (part_of f) party list (room_at tx at)).refusal ≡ false → list_tx_after (part_of f) party list tx at ≡ tx
  tx_kept party list tx at e =
      ads7953_demand1.tx_kept (part_of f) party list tx at (ap accepted (sym (ads7953_demand1.plan_list (part_of f) party list (room_at tx at)).number) ∙ e)

pub hands_back : HandsBack
unfolding framed_from list_planned_from list_buffer_from
hands_back =
    record {
      frames = λ f w code. split (is_part f)
          (λ v. rw v (λ e i. record { refusal = (framed (part_of f) w code).refusal; reply = (frame_kept f w code v e).0 i; next = (frame_kept f w code v e).1 i }))
          (λ v. rw v (λ e. refl));
      lengths = λ f party list room. split (is_part f)
          (λ v. rw v (λ e. ap (λ (a : ListPlanned). a.length) (kept_by (ads7953_demand1.plan_list (part_of f) party list room) e)))
          (λ v. rw v (λ e. refl));
      buffers = λ f party list tx at. split (is_part f) (λ v. rw v (λ e. tx_kept f party list tx at e)) (λ v. rw v (λ e. refl));
    }
