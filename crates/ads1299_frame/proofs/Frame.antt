-- Laws of the frame: its length, its bytes and its words.
use Prim.Native.Nat.{ℕ, ◌-◌, ◌%◌, ◌<◌, ◌≤◌}
use mathlib.Core.Path.{◌≡◌, ◌∙◌}
use mathlib.Core.Bool.{true}
use mathlib.Core.List.{List}
use native.Mathlib.Omega.{arith}
use borrow.Author.Tests.{ne_eqb}
use lib.IntN.{ℤ}
use lib.ListN.{length, get_or}
use Rattle.ads1299_registers.specs.Addresses.{GPIO, channel_count}
use Rattle.ads1299_codes.specs.Codes.{word_count, in_range, all_in_range, word_of}
use Rattle.ads1299_codes.specs.Words.{word_at}
use Rattle.ads1299_frame.specs.Frame.{frame_length, status_word, powered_down, shown, frame_word, frame_of}
use Rattle.ads1299_codes.proofs.Codes.{word_lt, all_at}
use Rattle.cases.proofs.Cases.{split}
use Rattle.ads1299_codes.proofs.Words.{length_joined, joined_lt, word_joined}

pub shown_range : (registers : List ℕ) (codes : List ℤ) → all_in_range codes ≡ true → (channel : ℕ) → in_range (shown registers codes channel) ≡ true
unfolding shown in_range
shown_range registers codes r channel =
    split (powered_down registers channel) (λ t. simp t) (λ t. simp t (all_at codes r (channel - 1)))

module _ (registers : List ℕ) (codes : List ℤ) (p n : ℕ) where
  abbrev frame : List ℕ
  frame = frame_of registers codes p n

  pub frame_length_lem : length frame ≡ frame_length
  unfolding frame_of
  frame_length_lem = length_joined (frame_word registers codes p n) 9

  pub frame_bytes : (i : ℕ) → get_or frame i 0 < 256
  unfolding frame_of
  frame_bytes = joined_lt (frame_word registers codes p n) 9

  frame_word_lem : (i : ℕ) → i ≤ channel_count → word_at frame i ≡ frame_word registers codes p n i % word_count
  unfolding frame_of
  frame_word_lem i h = word_joined (frame_word registers codes p n) 9 i (omega arith)

  pub frame_status : get_or registers GPIO 0 < 256 → p < 256 → n < 256 → word_at frame 0 ≡ status_word p n (get_or registers GPIO 0)
  unfolding frame_word status_word
  frame_status gpio ps ns = frame_word_lem 0 (omega arith) ∙ omega arith

  pub channel_shown : (channel : ℕ) → 0 < channel → channel ≤ channel_count → word_at frame channel ≡ word_of (shown registers codes channel)
  unfolding frame_word
  channel_shown channel low high =
      let l = word_lt (shown registers codes channel) in
      frame_word_lem channel high ∙ simp (ne_eqb channel 0 (λ e. omega arith)) (omega arith)
