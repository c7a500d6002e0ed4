-- What is claimed of the answers beyond the contracts.
use Rattle.std.specs.Prelude.{ℕ, ◌≡◌, false, List, ℤ, pos}
use Rattle.refusal.specs.First.{accepted}
use Rattle.request.specs.declared.Request.{Request}
use Rattle.request.specs.Writing.{written, buffer_after}
use Rattle.ads1299.specs.Step.{stepped}
use Rattle.ads1299.specs.Deselect.{deselected}
use Rattle.ads1299.specs.Sample.{sampled}
use Rattle.grants.specs.Grant.{granted}
use Rattle.readings.specs.Reading.{channel_reading}
use Rattle.planner.specs.Submission.{Submission}
use Rattle.planner.specs.Planned.{planned}
use Rattle.planner.specs.Buffer.{tx_after}
use Rattle.flat.specs.declared.FlatConverter.{FlatConverter}
use Rattle.flat.specs.States.{state_of}
use Rattle.capi.specs.Answers.{stepped_from, moved_from, reading_from, flat_written, planned_from, buffer_from}

-- A refusal, whichever it is, hands back the very bytes that it was given, those of a buffer too.
pub record HandsBack : Type 0 where
  pub steps : (f : FlatConverter) (byte : ℕ) → accepted (stepped_from f (stepped (state_of f) byte)).refusal ≡ false
      → (stepped_from f (stepped (state_of f) byte)).next ≡ f
  pub deselects : (f : FlatConverter) → accepted (moved_from f (deselected (state_of f))).refusal ≡ false
      → (moved_from f (deselected (state_of f))).next ≡ f
  pub samples : (f : FlatConverter) (codes : List ℤ) (p n : ℕ) → accepted (moved_from f (sampled (state_of f) codes p n)).refusal ≡ false
      → (moved_from f (sampled (state_of f) codes p n)).next ≡ f
  pub grants : (f : FlatConverter) (caller receiver channel : ℕ)
      → accepted (moved_from f (granted (state_of f) caller receiver channel)).refusal ≡ false
      → (moved_from f (granted (state_of f) caller receiver channel)).next ≡ f
  pub plans : (f : FlatConverter) (x : Submission) → accepted (planned_from f (planned (state_of f) x)).refusal ≡ false
      → (planned_from f (planned (state_of f) x)).next ≡ f
  pub plan_buffers : (f : FlatConverter) (x : Submission) (tx : List ℕ) (at : ℕ)
      → accepted (planned_from f (planned (state_of f) x)).refusal ≡ false
      → buffer_from f (tx_after (state_of f) x tx at) tx ≡ tx
  pub request_buffers : (r : Request) (buffer : List ℕ) → accepted (flat_written (written r buffer)).refusal ≡ false
      → buffer_after r buffer ≡ buffer

-- A refused reading gives 0 for everything but its number: for the code, for both bits, and for the rail, which is neither.
abbrev pub RefusedReadings : Type 0
RefusedReadings =
    (f : FlatConverter) (party channel : ℕ) (frame : List ℕ)
    → accepted (reading_from f (channel_reading (state_of f) party channel frame)).refusal ≡ false
    → reading_from f (channel_reading (state_of f) party channel frame)
    ≡ record { refusal = (reading_from f (channel_reading (state_of f) party channel frame)).refusal; p = 0; n = 0; rail = 0; code = pos 0 }
