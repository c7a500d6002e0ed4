-- The claims that frames say what went in, and that a channel which is powered down shows 0.
use Rattle.std.specs.Prelude.{ℕ, ◌-◌, ◌<◌, ◌≤◌, ◌≡◌, true, List, ℤ, pos, length, get_or}
use Rattle.ads1299_registers.specs.Addresses.{GPIO, channel_count}
use Rattle.bits.specs.Fields.{bit}
use Rattle.ads1299_codes.specs.Codes.{all_in_range, word_of}
use Rattle.ads1299_codes.specs.Words.{word_bytes}
use Rattle.ads1299_codes.specs.Rails.{rail_of}
use Rattle.ads1299_codes.specs.declared.Rail.TheVariants.{Neither}
use Rattle.ads1299_frame.specs.Frame.{frame_length, powered_down, shown, frame_of}
use Rattle.ads1299_readout.specs.Reading.{is_frame, channel_bytes, code_at, rail_at, lead_off_p, lead_off_n}

-- a frame says of each channel what went in: its code, or 0 where it is powered down, the rail of that, and its bits of P and N
pub record ReadsBack (registers : List ℕ) (codes : List ℤ) (p n : ℕ) (frame : List ℕ) : Type 0 where
  pub whole : length frame ≡ frame_length
  pub bytes : (i : ℕ) → get_or frame i 0 < 256
  pub framed : is_frame frame ≡ true
  pub coded : (channel : ℕ) → 0 < channel → channel ≤ channel_count
      → code_at frame channel ≡ shown registers codes channel
  pub railed : (channel : ℕ) → 0 < channel → channel ≤ channel_count
      → rail_at frame channel ≡ rail_of (shown registers codes channel)
  pub parted : (channel : ℕ) → 0 < channel → channel ≤ channel_count
      → channel_bytes frame channel ≡ word_bytes (word_of (shown registers codes channel))
  pub p_bit : (channel : ℕ) → lead_off_p frame channel ≡ bit p (channel - 1)
  pub n_bit : (channel : ℕ) → lead_off_n frame channel ≡ bit n (channel - 1)

-- Every frame that is built from bytes and codes in range reads back.
abbrev pub FramesReadBack : Type 0
FramesReadBack =
    (registers : List ℕ) (codes : List ℤ) (p n : ℕ)
    → get_or registers GPIO 0 < 256 → all_in_range codes ≡ true → p < 256 → n < 256
    → ReadsBack registers codes p n (frame_of registers codes p n)

-- a channel shows 0, on neither rail
pub record ShowsZero (frame : List ℕ) (channel : ℕ) : Type 0 where
  pub code : code_at frame channel ≡ pos 0
  pub rail : rail_at frame channel ≡ Neither

-- A channel that is powered down when its frame is built shows 0 there, on neither rail, whatever code was sampled.
abbrev pub PoweredDownShowsZero : Type 0
PoweredDownShowsZero =
    (registers : List ℕ) (codes : List ℤ) (p n channel : ℕ)
    → 0 < channel → channel ≤ channel_count → powered_down registers channel ≡ true
    → ShowsZero (frame_of registers codes p n) channel
