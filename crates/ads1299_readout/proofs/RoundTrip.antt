-- Frames say what went in, and 0 of a channel that is powered down.
use Prim.Native.Nat.{ℕ, ◌<◌, ◌≤◌}
use mathlib.Core.Path.{◌≡◌, sym, ◌∙◌, ap}
use mathlib.Core.Bool.{true}
use mathlib.Core.List.{List}
use native.Mathlib.Omega.{arith}
use lib.IntN.{ℤ, pos}
use lib.ListN.{get_or, length-take, length-drop}
use lib.Seq.{get_or-take, get_or-drop}
use Rattle.ads1299_registers.specs.Addresses.{GPIO, channel_count}
use Rattle.bits.specs.Fields.{field}
use Rattle.ads1299_codes.specs.Codes.{in_range, code_of}
use Rattle.ads1299_codes.specs.Words.{word, word_bytes, word_at}
use Rattle.ads1299_codes.specs.Rails.{stands_for, rail_of}
use Rattle.ads1299_frame.specs.Frame.{frame_mark, status_word, shown, frame_of}
use Rattle.ads1299_readout.specs.Reading.{leading_bits, is_frame, channel_bytes, code_at, rail_at, status_p, status_n, lead_off_p, lead_off_n}
use Rattle.ads1299_readout.specs.RoundTrip.{FramesReadBack, PoweredDownShowsZero}
use Rattle.ads1299_codes.proofs.Codes.{code_word}
use Rattle.ads1299_codes.proofs.Words.{three_bytes}
use Rattle.ads1299_frame.proofs.Frame.{shown_range, frame_length_lem, frame_bytes, frame_status, channel_shown}
use Rattle.ads1299_readout.proofs.Reading.{channel_word}

module _ (registers : List ℕ) (codes : List ℤ) (p n : ℕ) where
  abbrev frame : List ℕ
  frame = frame_of registers codes p n

  frame_part : (channel : ℕ) → channel ≤ channel_count → word_bytes (word_at frame channel) ≡ channel_bytes frame channel
  unfolding channel_bytes
  frame_part channel high =
      rw (channel_word frame channel) (three_bytes (channel_bytes frame channel) (simp (length-take, length-drop) (omega (arith, frame_length_lem registers codes p n))) (λ k h. rw (get_or-take, get_or-drop) (frame_bytes registers codes p n _)))

  module _ (gpio : get_or registers GPIO 0 < 256) (ps : p < 256) (ns : n < 256) where
    status : word_at frame 0 ≡ status_word p n (get_or registers GPIO 0)
    status = frame_status registers codes p n gpio ps ns

    frame_p : status_p frame ≡ p
    unfolding field status_p status_word
    frame_p = rw status (omega arith)

    frame_n : status_n frame ≡ n
    unfolding field status_n status_word
    frame_n = rw status (omega arith)

    frame_marked : leading_bits frame ≡ frame_mark
    unfolding leading_bits status_word word_at word
    frame_marked =
        let bytes = frame_bytes registers codes p n in
        omega (arith, status, bytes 0, bytes 1, bytes 2)

  frame_code : (channel : ℕ) → 0 < channel → channel ≤ channel_count → in_range (shown registers codes channel) ≡ true → code_at frame channel ≡ shown registers codes channel
  unfolding code_at
  frame_code channel low high range = ap code_of (channel_shown registers codes p n channel low high) ∙ code_word (shown registers codes channel) range

pub frames_read_back : FramesReadBack
unfolding is_frame rail_at lead_off_p lead_off_n
frames_read_back registers codes p n gpio r ps ns = record {
  whole = frame_length_lem registers codes p n;
  bytes = frame_bytes registers codes p n;
  framed = rw (frame_length_lem registers codes p n, frame_marked registers codes p n gpio ps ns);
  coded = λ channel low high. frame_code registers codes p n channel low high (shown_range registers codes r channel);
  railed = λ channel low high. ap rail_of (frame_code registers codes p n channel low high (shown_range registers codes r channel));
  parted = λ channel low high. sym (frame_part registers codes p n channel high) ∙ ap word_bytes (channel_shown registers codes p n channel low high);
  p_bit = λ channel. rw (frame_p registers codes p n gpio ps ns);
  n_bit = λ channel. rw (frame_n registers codes p n gpio ps ns);
}

pub powered_down_shows_zero : PoweredDownShowsZero
unfolding in_range shown stands_for rail_of rail_at
powered_down_shows_zero registers codes p n channel low high down =
    let zero : code_at (frame_of registers codes p n) channel ≡ pos 0 = frame_code registers codes p n channel low high (rw down) ∙ rw down in
    record { code = zero; rail = ap rail_of zero }
