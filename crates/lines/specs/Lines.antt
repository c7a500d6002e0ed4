-- The one mapping from a channel's number on the bench to a converter and that converter's own channel (document 02, No. 4).
use Rattle.std.specs.Prelude.{ℕ, ◌+◌, ◌*◌, ◌-◌, ◌/◌, ◌%◌, Bool, cond, List, [], ◌∷◌, leb, ltb, eqb}
use Rattle.cases.specs.Every.{every}
use Rattle.ads1299_registers.specs.Addresses.{channel_count}

-- how many converters a bench has
abbrev pub converter_count : ℕ
converter_count = 4

-- there is a converter of this number
abbrev pub is_converter : ℕ → Bool
is_converter k = ltb k converter_count

-- gives the converters' numbers
abbrev pub converter_numbers : List ℕ
converter_numbers = 0 ∷ 1 ∷ 2 ∷ 3 ∷ []

-- the number of every converter passes the test
abbrev pub every_converter : (ℕ → Bool) → Bool
every_converter test = every test converter_numbers

-- the bench's last channel
abbrev pub last_channel : ℕ
last_channel = converter_count * channel_count

-- the last number that names a converter as a whole: after the channels there is one for each converter but the first, whose number is 0
abbrev pub last_number : ℕ
last_number = last_channel + (converter_count - 1)

-- a channel that no converter has
abbrev pub no_channel : ℕ
no_channel = channel_count + 1

-- gives the number of the converter that a channel's number names; 0 where it names none
unfoldable pub converter_of : ℕ → ℕ
converter_of n = cond (leb n last_channel) ((n - 1) / channel_count) (cond (leb n last_number) (n - last_channel) 0)

-- gives the channel as that converter counts it: 0 for the converter as a whole, and a channel that none has where no converter is named
unfoldable pub local_channel : ℕ → ℕ
local_channel n = cond (leb n last_channel) (cond (eqb n 0) 0 ((n - 1) % channel_count + 1)) (cond (leb n last_number) 0 no_channel)

-- gives the channel as converter k counts it; where it is another's, a channel that no converter has
unfoldable pub channel_on : ℕ → ℕ → ℕ
channel_on k n = cond (eqb (converter_of n) k) (local_channel n) no_channel

-- gives the bench's number of channel m of converter k, 0 being the converter as a whole: the way back
unfoldable pub bench_channel : ℕ → ℕ → ℕ
bench_channel k m = cond (eqb m 0) (cond (eqb k 0) 0 (last_channel + k)) (channel_count * k + m)
