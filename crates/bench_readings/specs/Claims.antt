-- What is claimed of readings on the bench beyond the functions' contracts.
use Rattle.std.specs.Prelude.{ℕ, ◌-◌, ◌<◌, ◌≡◌, true, cond, List, ℤ, length}
use Rattle.bits.specs.Fields.{bit}
use Rattle.refusal.specs.Numbers.{none}
use Rattle.refusal.specs.First.{first_of, accepted}
use Rattle.parties.specs.Owners.{owner_of}
use Rattle.ads1299_registers.specs.Channels.{is_channel}
use Rattle.ads1299_codes.specs.Codes.{word_of}
use Rattle.ads1299_codes.specs.Words.{word_length, word_bytes}
use Rattle.ads1299_codes.specs.Rails.{rail_of}
use Rattle.ads1299_frame.specs.Frame.{powered_down, shown}
use Rattle.ads1299_readout.specs.Reading.{leading_bits, channel_bytes, lead_off_p, lead_off_n}
use Rattle.readings.specs.Reading.{reading}
use Rattle.readings.specs.Claims.{ReadsZero}
use Rattle.lines.specs.Lines.{converter_of, channel_on, bench_channel}
use Rattle.bench.specs.declared.Bench.{Bench}
use Rattle.bench.specs.Bench.{at, valid_bench, bench_owners}
use Rattle.bench.specs.Formed.{FormedBench}
use Rattle.bench.specs.Line.{bench_sampled}
use Rattle.bench_readings.specs.Reading.{bench_reading, bench_part_bytes, bench_part_place, bench_reading_refusals}

-- Every reading is answered the number of the first refusal that applies as document 02 words them.
abbrev pub ReadingsAsWorded : Type 0
ReadingsAsWorded =
    (b : Bench) → FormedBench b → (k party n : ℕ) (frame : List ℕ)
    → (bench_reading b k party n frame).refusal ≡ first_of (bench_reading_refusals b k party n frame)

-- two benches pass 13 with the same owners on the channel's converter, and two lists of bytes, said to be frames of converter k, agree in length, in the
-- first four bits, in the channel's bytes and in its two lead-off bits
pub record Alike (b d : Bench) (k n : ℕ) (first second : List ℕ) : Type 0 where
  pub b_valid : valid_bench b ≡ true
  pub d_valid : valid_bench d ≡ true
  pub owners : (at b (converter_of n)).owners ≡ (at d (converter_of n)).owners
  pub lengths : length first ≡ length second
  pub marks : leading_bits first ≡ leading_bits second
  pub bytes : channel_bytes first (channel_on k n) ≡ channel_bytes second (channel_on k n)
  pub p_bits : lead_off_p first (channel_on k n) ≡ lead_off_p second (channel_on k n)
  pub n_bits : lead_off_n first (channel_on k n) ≡ lead_off_n second (channel_on k n)

-- a party's readings of a channel from frames of converter k are equal, and so are the parts
pub record SameReading (b d : Bench) (k party n : ℕ) (first second : List ℕ) : Type 0 where
  pub readings : bench_reading b k party n first ≡ bench_reading d k party n second
  pub parts : bench_part_bytes b k party n first ≡ bench_part_bytes d k party n second
  pub places : bench_part_place b k party n first ≡ bench_part_place d k party n second

-- Whatever else the benches and the bytes hold, with the same converter's number they give a party the same reading: nothing of another channel, nor of another converter, shows.
abbrev pub EqualReadings : Type 0
EqualReadings =
    (b d : Bench) (k party n : ℕ) (first second : List ℕ) → Alike b d k n first second → SameReading b d k party n first second

-- The second call gives three bytes exactly when the first one accepts, else none.
abbrev pub ThreeOrNone : Type 0
ThreeOrNone =
    (b : Bench) (k party n : ℕ) (frame : List ℕ)
    → length (bench_part_bytes b k party n frame) ≡ cond (accepted (bench_reading b k party n frame).refusal) word_length 0

-- A reading's rail is that of its code, refused or not.
abbrev pub RailOfCode : Type 0
RailOfCode =
    (b : Bench) (k party n : ℕ) (frame : List ℕ) → (bench_reading b k party n frame).rail ≡ rail_of (bench_reading b k party n frame).code

-- a party reads channel m of converter k from that converter's latest frame, by the bench's number and with the converter's, as it was sampled
pub record ReadsSample (registers : List ℕ) (codes : List ℤ) (p q party k m : ℕ) (next : Bench) : Type 0 where
  pub read : bench_reading next k party (bench_channel k m) (at next k).latest
      ≡ reading none (shown registers codes m) (rail_of (shown registers codes m)) (bit p (m - 1)) (bit q (m - 1))
  pub part : bench_part_bytes next k party (bench_channel k m) (at next k).latest ≡ word_bytes (word_of (shown registers codes m))

-- After every sample that is taken, the owner of each of its converter's channels, among the bench's 32, reads what was sampled.
abbrev pub SamplesReadBack : Type 0
SamplesReadBack =
    (b : Bench) → FormedBench b → (k : ℕ) (codes : List ℤ) (p q m : ℕ)
    → p < 256 → q < 256
    → (bench_sampled b k codes p q).refusal ≡ none → is_channel m ≡ true
    → ReadsSample (at b k).registers codes p q (owner_of (bench_owners b) (bench_channel k m)) k m (bench_sampled b k codes p q).next

-- A channel that was powered down at a sample of its converter reads 0 from that frame, on neither rail, whoever reads it, on whichever bench, refused or not.
abbrev pub PoweredDownReadsZero : Type 0
PoweredDownReadsZero =
    (b : Bench) → FormedBench b → (k : ℕ) (codes : List ℤ) (p q m : ℕ)
    → (bench_sampled b k codes p q).refusal ≡ none → is_channel m ≡ true → powered_down (at b k).registers m ≡ true
    → (d : Bench) (party : ℕ) → ReadsZero (bench_reading d k party (bench_channel k m) (at (bench_sampled b k codes p q).next k).latest)
