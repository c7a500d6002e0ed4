-- Demand 1: no input makes it fail. That every function returns, for every input, is what its proof shows: no public function has a
-- `requires`. What is claimed here is what a refusal is: the number of the first test that applies, in the order of document 01,
-- with every other number 0, bits off, neither rail, an empty part, and every state and buffer as it was given.
use Rattle.std.specs.Prelude.{ℕ, ◌≤◌, ◌<◌, ◌≡◌, Bool, true, false, not, List, [], ◌∷◌, ◌++◌, ℤ, pos, eqb, ltb, length, replicate, drop}
use Rattle.refusal.specs.Numbers.{truncated, malformed, invalid_state, input_too_long}
use Rattle.refusal.specs.First.{first_of, accepted, Exact}
use Rattle.ads1299_registers.specs.Addresses.{channel_count}
use Rattle.ads1299_codes.specs.declared.Rail.TheVariants.{Neither}
use Rattle.request.specs.declared.Request.{Request}
use Rattle.request.specs.Answers.{Parsed}
use Rattle.request.specs.Answers.{Written}
use Rattle.request.specs.Reading.{read_refusals, refused, parsed}
use Rattle.request.specs.Writing.{write_refusals, written, buffer_after}
use Rattle.ads1299.specs.declared.Converter.{Converter}
use Rattle.ads1299.specs.Answers.{PoweredUp}
use Rattle.ads1299.specs.Answers.{Stepped}
use Rattle.ads1299.specs.Answers.{Moved}
use Rattle.parties.specs.Parties.{admin}
use Rattle.ads1299.specs.PowerUp.{valid_id, restored, powered_up}
use Rattle.ads1299.specs.State.{moved}
use Rattle.ads1299.specs.Validity.{valid}
use Rattle.ads1299.specs.Step.{stepped}
use Rattle.ads1299.specs.Deselect.{deselected}
use Rattle.ads1299.specs.Sample.{sample_refusals, sampled}
use Rattle.readings.specs.Answers.{Reading}
use Rattle.grants.specs.Grant.{grant_refusals, granted}
use Rattle.readings.specs.Reading.{reading_refusals, reading, channel_reading, part_bytes}
use Rattle.ads1299_settings.specs.Registers.{field_of}
use Rattle.planner.specs.Answers.{Planned}
use Rattle.planner.specs.Submission.{Submission}
use Rattle.planner.specs.Refusals.{refusals}
use Rattle.planner.specs.Planned.{planned}
use Rattle.planner.specs.Buffer.{tx_after}
use Rattle.console.specs.Line.{line}
use Rattle.console.specs.Turn.{fresh, is_read, submitted}
use Rattle.console.specs.Transcript.{input_limit, session, transcript_of}

-- an answer carries the number of the first test that applies, 0 exactly when none does, and is the refused answer of that number
-- where one does
pub record Judges {A : Type 0} (tests : List (Bool × ℕ)) (number_of : A → ℕ) (answer : A) (refused_by : ℕ → A) : Type 0 where
  pub exact : Exact tests
  pub number : number_of answer ≡ first_of tests
  pub kept : accepted (first_of tests) ≡ false → answer ≡ refused_by (first_of tests)

-- the one test of a byte and of a select rise
abbrev pub state_refusals : Converter → List (Bool × ℕ)
state_refusals s = (not (valid s), invalid_state) ∷ []

-- the tests of the program's input, before a request is read from it
abbrev pub input_refusals : List ℕ → List (Bool × ℕ)
input_refusals input = (ltb input_limit (length input), input_too_long) ∷ (eqb (length input) 0, truncated) ∷ []

-- Every entry point judges its own input, and a refused call changes nothing.
pub record Demand1 : Type 0 where
  pub power_up : (id : ℕ)
      → Judges ((not (valid_id id), invalid_state) ∷ []) (λ (a : PoweredUp). a.refusal) (powered_up id)
      (λ n. record { refusal = n; converter = restored 0 (replicate channel_count admin) })
  pub step : (s : Converter) (byte : ℕ)
      → Judges (state_refusals s) (λ (a : Stepped). a.refusal) (stepped s byte) (λ n. record { refusal = n; out = 0; next = s })
  pub deselect : (s : Converter) → Judges (state_refusals s) (λ (a : Moved). a.refusal) (deselected s) (λ n. moved n s)
  pub sample : (s : Converter) (codes : List ℤ) (p n : ℕ)
      → Judges (sample_refusals s codes) (λ (a : Moved). a.refusal) (sampled s codes p n) (λ m. moved m s)
  pub grant : (s : Converter) (caller receiver channel : ℕ)
      → Judges (grant_refusals s caller receiver channel) (λ (a : Moved). a.refusal) (granted s caller receiver channel) (λ n. moved n s)
  pub read_channel : (s : Converter) (party channel : ℕ) (frame : List ℕ)
      → Judges (reading_refusals s party channel frame) (λ (a : Reading). a.refusal) (channel_reading s party channel frame)
      (λ n. reading n (pos 0) Neither false false)
  pub channel_bytes : (s : Converter) (party channel : ℕ) (frame : List ℕ)
      → accepted (first_of (reading_refusals s party channel frame)) ≡ false
      → part_bytes s party channel frame ≡ []
  pub read_request : (bytes : List ℕ) → Judges (read_refusals bytes) (λ (a : Parsed). a.refusal) (parsed bytes) refused
  pub write_request : (r : Request) (buffer : List ℕ)
      → Judges (write_refusals r (length buffer)) (λ (a : Written). a.refusal) (written r buffer) (λ n. record { refusal = n; used = 0 })
  pub buffer_kept : (r : Request) (buffer : List ℕ) → accepted (first_of (write_refusals r (length buffer))) ≡ false → buffer_after r buffer ≡ buffer
  pub plan : (s : Converter) (x : Submission)
      → Judges (refusals s (field_of s.registers) x) (λ (a : Planned). a.refusal) (planned s x)
      (λ n. record { refusal = n; length = 0; next = s })
  pub tx_kept : (s : Converter) (x : Submission) (tx : List ℕ) (at : ℕ)
      → accepted (first_of (refusals s (field_of s.registers) x)) ≡ false
      → tx_after s x tx at ≡ tx
  -- the program: an input that is refused prints its number alone (14, or 1 without a party byte);
  pub program_input : (input : List ℕ) → Exact (input_refusals input)
  pub input_refused : (input : List ℕ) → accepted (first_of (input_refusals input)) ≡ false
      → transcript_of input ≡ line (first_of (input_refusals input)) []
  pub input_taken : (party : ℕ) (bytes : List ℕ) → accepted (first_of (input_refusals (party ∷ bytes))) ≡ true
      → transcript_of (party ∷ bytes) ≡ session fresh party bytes
  -- bytes that are no request print the reader's number, 1 or 2, and end the run;
  pub reader_numbers : (bytes : List ℕ) → first_of (read_refusals bytes) ≤ malformed
  pub request_unread : (s : Converter) (party : ℕ) (bytes : List ℕ) → 0 < length bytes → accepted (first_of (read_refusals bytes)) ≡ false
      → session s party bytes ≡ line (first_of (read_refusals bytes)) []
  -- and a request that the planner refuses prints that number alone, and the next one meets the same state
  pub request_refused : (s : Converter) (party : ℕ) (bytes : List ℕ) → 0 < length bytes → is_read bytes ≡ true
      → accepted (planned s (submitted party bytes)).refusal ≡ false
      → session s party bytes ≡ line (planned s (submitted party bytes)).refusal [] ++ session s party (drop (parsed bytes).used bytes)
