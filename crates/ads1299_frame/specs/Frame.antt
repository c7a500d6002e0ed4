-- The frame of a sample: nine words, the status word and then the channels' (document 01, "Samples and frames").
use Rattle.std.specs.Prelude.{ℕ, ◌+◌, ◌-◌, ◌*◌, ◌/◌, ◌^◌, Bool, cond, List, eqb, ℤ, pos, get_or}
use Rattle.ads1299_registers.specs.Addresses.{CH1SET, GPIO, channel_count}
use Rattle.bits.specs.Fields.{bit}
use Rattle.ads1299_codes.specs.Codes.{word_of}
use Rattle.ads1299_codes.specs.Words.{joined}

-- gives the number of bytes of a frame
abbrev pub frame_length : ℕ
frame_length = 27

-- gives the first four bits of a frame
abbrev pub frame_mark : ℕ
frame_mark = 0b1100

-- gives the status word: the mark, P, N and bits 7:4 of GPIO
unfoldable pub status_word : ℕ → ℕ → ℕ → ℕ
status_word p n gpio = frame_mark * 2 ^ 20 + p * 2 ^ 12 + n * 2 ^ 4 + gpio / 2 ^ 4

-- tells whether a channel's power-down bit, bit 7 of CHnSET, is 1
unfoldable pub powered_down : List ℕ → ℕ → Bool
powered_down registers channel = bit (get_or registers (CH1SET + (channel - 1)) 0) 7

-- gives what a channel shows: 0 where it is powered down, else its code, where a missing code counts as 0
unfoldable pub shown : List ℕ → List ℤ → ℕ → ℤ
shown registers codes channel = cond (powered_down registers channel) (pos 0) (get_or codes (channel - 1) (pos 0))

-- gives word i of a frame: word 0 is the status word, word n is channel n's
unfoldable pub frame_word : List ℕ → List ℤ → ℕ → ℕ → ℕ → ℕ
frame_word registers codes p n i =
    cond (eqb i 0) (status_word p n (get_or registers GPIO 0)) (word_of (shown registers codes i))

-- gives the frame of a sample, its codes, P and N, at the registers' values
unfoldable pub frame_of : List ℕ → List ℤ → ℕ → ℕ → List ℕ
frame_of registers codes p n = joined (frame_word registers codes p n) (1 + channel_count)
