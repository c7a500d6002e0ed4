-- What is claimed of readings beyond the functions' contracts.
use Rattle.std.specs.Prelude.{ℕ, ◌-◌, ◌<◌, ◌≡◌, true, cond, List, ℤ, pos, length, get_or}
use Rattle.refusal.specs.Numbers.{none}
use Rattle.refusal.specs.First.{accepted}
use Rattle.bits.specs.Fields.{bit}
use Rattle.ads1299_codes.specs.Codes.{word_of}
use Rattle.ads1299_codes.specs.Words.{word_length, word_bytes}
use Rattle.ads1299_codes.specs.Rails.{rail_of}
use Rattle.ads1299_codes.specs.declared.Rail.TheVariants.{Neither}
use Rattle.ads1299_frame.specs.Frame.{powered_down, shown}
use Rattle.ads1299_readout.specs.Reading.{leading_bits, channel_bytes, lead_off_p, lead_off_n}
use Rattle.ads1299.specs.declared.Converter.{Converter}
use Rattle.ads1299.specs.Validity.{valid}
use Rattle.ads1299.specs.Sample.{sampled}
use Rattle.parties.specs.Owners.{owner_of}
use Rattle.ads1299_registers.specs.Channels.{is_channel}
use Rattle.readings.specs.Answers.{Reading}
use Rattle.readings.specs.Reading.{reading, channel_reading, part_bytes, part_place}

-- two states pass 13 with the same owners, and two lists of bytes agree in length, in the first four bits, in a channel's bytes and in its two lead-off bits
pub record Alike (s t : Converter) (channel : ℕ) (first second : List ℕ) : Type 0 where
  pub s_valid : valid s ≡ true
  pub t_valid : valid t ≡ true
  pub owners : s.owners ≡ t.owners
  pub lengths : length first ≡ length second
  pub marks : leading_bits first ≡ leading_bits second
  pub bytes : channel_bytes first channel ≡ channel_bytes second channel
  pub p_bits : lead_off_p first channel ≡ lead_off_p second channel
  pub n_bits : lead_off_n first channel ≡ lead_off_n second channel

-- a party's readings of a channel are equal, and so are the parts
pub record SameReading (s t : Converter) (party channel : ℕ) (first second : List ℕ) : Type 0 where
  pub readings : channel_reading s party channel first ≡ channel_reading t party channel second
  pub parts : part_bytes s party channel first ≡ part_bytes t party channel second
  pub places : part_place s party channel first ≡ part_place t party channel second

-- Whatever else the states and the bytes hold, they give a party the same reading: nothing of another channel shows, refused or not.
abbrev pub EqualReadings : Type 0
EqualReadings =
    (s t : Converter) (party channel : ℕ) (first second : List ℕ)
    → Alike s t channel first second
    → SameReading s t party channel first second

-- The second call gives three bytes exactly when the first one accepts, else none.
abbrev pub ThreeOrNone : Type 0
ThreeOrNone =
    (s : Converter) (party channel : ℕ) (frame : List ℕ)
    → length (part_bytes s party channel frame) ≡ cond (accepted (channel_reading s party channel frame).refusal) word_length 0

-- a party reads from the latest frame what was sampled: the channel's code, or 0 where it is powered down, the rail of that, and its bits of P and N
pub record ReadsSample (registers : List ℕ) (codes : List ℤ) (p n party channel : ℕ) (next : Converter) : Type 0 where
  pub read : channel_reading next party channel next.latest
      ≡ reading none (shown registers codes channel) (rail_of (shown registers codes channel)) (bit p (channel - 1)) (bit n (channel - 1))
  pub part : part_bytes next party channel next.latest ≡ word_bytes (word_of (shown registers codes channel))

-- After every sample that is taken, each channel's owner reads what was sampled.
abbrev pub SamplesReadBack : Type 0
SamplesReadBack =
    (s : Converter) (codes : List ℤ) (p n channel : ℕ)
    → ((i : ℕ) → get_or s.registers i 0 < 256) → p < 256 → n < 256
    → (sampled s codes p n).refusal ≡ none → is_channel channel ≡ true
    → ReadsSample s.registers codes p n (owner_of s.owners channel) channel (sampled s codes p n).next

-- A reading's rail is that of its code, refused or not.
abbrev pub RailOfCode : Type 0
RailOfCode =
    (s : Converter) (party channel : ℕ) (frame : List ℕ)
    → (channel_reading s party channel frame).rail ≡ rail_of (channel_reading s party channel frame).code

-- a reading is 0, on neither rail
pub record ReadsZero (a : Reading) : Type 0 where
  pub code : a.code ≡ pos 0
  pub rail : a.rail ≡ Neither

-- A channel that was powered down at a sample reads 0 from its frame, on neither rail: whatever code was sampled, whoever reads it, by whichever state, refused or not.
abbrev pub PoweredDownReadsZero : Type 0
PoweredDownReadsZero =
    (s : Converter) (codes : List ℤ) (p n channel : ℕ)
    → (sampled s codes p n).refusal ≡ none → is_channel channel ≡ true → powered_down s.registers channel ≡ true
    → (t : Converter) (party : ℕ) → ReadsZero (channel_reading t party channel (sampled s codes p n).next.latest)
