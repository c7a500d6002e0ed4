-- What a frame says of a channel (document 01, "Samples and frames"; the rail by document 02, No. 3).
use Rattle.std.specs.Prelude.{ℕ, ◌+◌, ◌-◌, ◌*◌, ◌/◌, ◌%◌, ◌^◌, ◌≡◌, Bool, ◌&&◌, List, eqb, ℤ, length, take, drop, get_or}
use Rattle.bits.specs.Fields.{field, bit}
use Rattle.ads1299_codes.specs.Codes.{code_of}
use Rattle.ads1299_codes.specs.Words.{word_length, word_at}
use Rattle.ads1299_codes.specs.Rails.{rail_of}
use Rattle.ads1299_codes.specs.declared.Rail.{Rail}
use Rattle.ads1299_frame.specs.Frame.{frame_mark, frame_length}

-- gives the first four bits of a list of bytes
unfoldable pub leading_bits : List ℕ → ℕ
leading_bits frame = get_or frame 0 0 / 2 ^ 4

-- tells whether bytes are a frame, by their number and the first four bits
unfoldable pub is_frame : List ℕ → Bool
is_frame frame = eqb (length frame) frame_length && eqb (leading_bits frame) frame_mark

-- gives the three bytes of a channel; channel 0 has those of the status word
unfoldable pub channel_bytes : List ℕ → ℕ → List ℕ
channel_bytes frame channel = take word_length (drop (word_length * channel) frame)

-- gives the code of a channel; channel 0 has that of the status word, and missing bytes count as 0
unfoldable pub code_at : List ℕ → ℕ → ℤ
code_at frame channel = code_of (word_at frame channel)

-- gives the rail of a channel's code
unfoldable pub rail_at : List ℕ → ℕ → Rail
rail_at frame channel = rail_of (code_at frame channel)

-- gives P, the status word's bits 19:12
unfoldable pub status_p : List ℕ → ℕ
status_p frame = field (word_at frame 0) 12 8

-- gives N, the status word's bits 11:4
unfoldable pub status_n : List ℕ → ℕ
status_n frame = field (word_at frame 0) 4 8

-- gives the byte that lies across two bytes of a list, from the low half of the one at a place on
abbrev pub across : List ℕ → ℕ → ℕ
across bytes at = get_or bytes at 0 % 2 ^ 4 * 2 ^ 4 + get_or bytes (at + 1) 0 / 2 ^ 4

-- tells whether a channel's bit of P is 1; channel 0 counts as 1, and a channel above 8 has none
unfoldable pub lead_off_p : List ℕ → ℕ → Bool
lead_off_p frame channel = bit (status_p frame) (channel - 1)

-- tells whether a channel's bit of N is 1; channel 0 counts as 1, and a channel above 8 has none
unfoldable pub lead_off_n : List ℕ → ℕ → Bool
lead_off_n frame channel = bit (status_n frame) (channel - 1)

-- Bytes that agree in number and first four bits are both a frame or neither, and bytes that agree in a channel's three give it the same code and the same rail.
pub record LocalReading : Type 0 where
  pub framed : (first second : List ℕ) → length first ≡ length second → leading_bits first ≡ leading_bits second → is_frame first ≡ is_frame second
  pub coded : (first second : List ℕ) (channel : ℕ) → channel_bytes first channel ≡ channel_bytes second channel
      → code_at first channel ≡ code_at second channel
  pub railed : (first second : List ℕ) (channel : ℕ) → channel_bytes first channel ≡ channel_bytes second channel
      → rail_at first channel ≡ rail_at second channel
