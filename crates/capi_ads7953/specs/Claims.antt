-- What is claimed of the answers beyond the contracts.
use Rattle.std.specs.Prelude.{ℕ, ◌≡◌, false, List}
use Rattle.refusal.specs.First.{accepted}
use Rattle.splice.specs.Splice.{room_at}
use Rattle.ads7953.specs.Frame.{framed}
use Rattle.ads7953_list.specs.Planned.{list_planned, list_tx_after}
use Rattle.flat_ads7953.specs.declared.FlatAds7953.{FlatAds7953}
use Rattle.flat_ads7953.specs.Flat.{part_of}
use Rattle.capi_ads7953.specs.Answers.{framed_from, list_planned_from, list_buffer_from}

-- A refusal, whichever it is, hands back the very bytes that it was given, those of a buffer too, and 0 for every other number.
pub record HandsBack : Type 0 where
  pub frames : (f : FlatAds7953) (w code : ℕ) → accepted (framed_from f (framed (part_of f) w code)).refusal ≡ false
      → framed_from f (framed (part_of f) w code) ≡ record { refusal = (framed_from f (framed (part_of f) w code)).refusal; reply = 0; next = f }
  pub lengths : (f : FlatAds7953) (party list room : ℕ) → accepted (list_planned_from f (list_planned (part_of f) party list room)).refusal ≡ false
      → (list_planned_from f (list_planned (part_of f) party list room)).length ≡ 0
  pub buffers : (f : FlatAds7953) (party list : ℕ) (tx : List ℕ) (at : ℕ)
      → accepted (list_planned_from f (list_planned (part_of f) party list (room_at tx at))).refusal ≡ false
      → list_buffer_from f (list_tx_after (part_of f) party list tx at) tx ≡ tx
