-- Each answer is chosen by its refusal number.
use mathlib.Core.Path.{refl}
use Rattle.refusal.specs.Numbers.{none}
use Rattle.refusal.proofs.First.{exact}
use Rattle.demand1.proofs.Demand1.{chosen}
use Rattle.ads7953.specs.Answers.{Framed}
use Rattle.ads7953.specs.Frame.{frame_refusals, frame_refusal, reply, followed, framed}
use Rattle.ads7953_list.specs.Answers.{ListPlanned}
use Rattle.ads7953_list.specs.Planned.{list_plan_length, list_refusals, list_refusal, list_planned, list_tx_after}
use Rattle.ads7953_demand1.specs.Demand1.{Ads7953Demand1}

pub ads7953_demand1 : Ads7953Demand1
unfolding framed frame_refusal list_planned list_refusal list_tx_after
ads7953_demand1 =
    record {
      frame = λ s w code. chosen (frame_refusals s code) (λ (a : Framed). a.refusal)
          (record { refusal = none; reply = reply s code; next = followed s w }) (λ n. record { refusal = n; reply = 0; next = s })
          (exact (frame_refusals s code) refl) refl (λ n. refl);
      plan_list = λ s party list room. chosen (list_refusals s party list room) (λ (a : ListPlanned). a.refusal)
          (record { refusal = none; length = list_plan_length }) (λ n. record { refusal = n; length = 0 })
          (exact (list_refusals s party list room) refl) refl (λ n. refl);
      tx_kept = λ s party list tx at e. rw e;
    }
