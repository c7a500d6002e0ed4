-- What a reading depends on.
use Prim.Native.Nat.{ℕ, ◌<◌}
use mathlib.Core.Path.{◌≡◌, sym, ◌∙◌, ap}
use mathlib.Core.List.{List}
use native.Mathlib.Nat.{zero-add}
use native.Mathlib.Omega.{arith}
use lib.ListN.{get_or}
use lib.Seq.{get_or-take, get_or-drop}
use Rattle.bits.specs.Fields.{field}
use Rattle.ads1299_codes.specs.Codes.{code_of}
use Rattle.ads1299_codes.specs.Words.{word, word_at}
use Rattle.ads1299_codes.specs.Rails.{rail_of}
use Rattle.ads1299_readout.specs.Reading.{is_frame, channel_bytes, code_at, rail_at, status_p, status_n, across, LocalReading}
use Rattle.ads1299_codes.proofs.Words.{same_word}

-- a channel's word is that of its three bytes
pub channel_word : (frame : List ℕ) (channel : ℕ) → word_at frame channel ≡ word_at (channel_bytes frame channel) 0
unfolding channel_bytes
channel_word frame channel = same_word _ _ channel 0 (λ k h. rw (zero-add, get_or-take, get_or-drop))

-- P and N lie each across two bytes
module _ (frame : List ℕ) (small : (i : ℕ) → get_or frame i 0 < 256) where
  pub across_p : across frame 0 ≡ status_p frame
  unfolding field word word_at status_p
  across_p = omega (arith, small 0, small 1, small 2)

  pub across_n : across frame 1 ≡ status_n frame
  unfolding field word word_at status_n
  across_n = omega (arith, small 0, small 1, small 2)

same_code : (first second : List ℕ) (channel : ℕ) → channel_bytes first channel ≡ channel_bytes second channel → code_at first channel ≡ code_at second channel
unfolding code_at
same_code first second channel same =
    ap code_of (channel_word first channel ∙ ap (λ (bytes : List ℕ). word_at bytes 0) same ∙ sym (channel_word second channel))

pub local_reading : LocalReading
unfolding is_frame rail_at
local_reading = record {
  framed = λ first second long head. rw (long, head);
  coded = same_code;
  railed = λ first second channel same. ap rail_of (same_code first second channel same);
}
