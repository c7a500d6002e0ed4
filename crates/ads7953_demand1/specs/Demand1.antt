-- Demand 1 of the ADS7953's entry points, which power-up, with nothing to refuse, is not among.
use Rattle.std.specs.Prelude.{ℕ, ◌≡◌, false, List}
use Rattle.refusal.specs.First.{first_of, accepted}
use Rattle.splice.specs.Splice.{room_at}
use Rattle.demand1.specs.Demand1.{Judges}
use Rattle.ads7953.specs.declared.Ads7953.{Ads7953}
use Rattle.ads7953.specs.Answers.{Framed}
use Rattle.ads7953.specs.Frame.{frame_refusals, framed}
use Rattle.ads7953_list.specs.Answers.{ListPlanned}
use Rattle.ads7953_list.specs.Planned.{list_refusals, list_planned, list_tx_after}

-- A frame and a list are refused by the first test that applies and accepted exactly when none does, and a refusal changes nothing.
pub record Ads7953Demand1 : Type 0 where
  pub frame : (s : Ads7953) (w code : ℕ)
      → Judges (frame_refusals s code) (λ (a : Framed). a.refusal) (framed s w code) (λ n. record { refusal = n; reply = 0; next = s })
  pub plan_list : (s : Ads7953) (party list room : ℕ)
      → Judges (list_refusals s party list room) (λ (a : ListPlanned). a.refusal) (list_planned s party list room) (λ n. record { refusal = n; length = 0 })
  pub tx_kept : (s : Ads7953) (party list : ℕ) (tx : List ℕ) (at : ℕ)
      → accepted (first_of (list_refusals s party list (room_at tx at))) ≡ false
      → list_tx_after s party list tx at ≡ tx
