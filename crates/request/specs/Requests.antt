-- The setting request (document 01: slip): a field, a channel and a value, or a whole channel's nine (document 02, No. 1).
use Rattle.std.specs.Prelude.{Bool, cond, List, ◌∷◌, ℕ, ◌+◌, ◌*◌, eqb, take, drop, get_or}
use Rattle.ads1299_fields.specs.Names.{channel_field_count, whole_channel}
use Rattle.leb128.specs.Numbers.{groups}
unfoldable pub use Rattle.leb128.specs.Encoding.{padded}
use Rattle.leb128.specs.Series as series
use Rattle.request.specs.declared.Request.{Request}

-- the most values of a request: one for each field of a channel
abbrev pub most_values : ℕ
most_values = channel_field_count

-- gives how many values a request for field f has
abbrev pub value_count : ℕ → ℕ
value_count f = cond (eqb f whole_channel) most_values 1

-- gives how many numbers a request of so many values has: the field, the channel and these
abbrev pub numbers_with : ℕ → ℕ
numbers_with values = 2 + values

-- the fewest numbers of a request
abbrev pub fewest_numbers : ℕ
fewest_numbers = numbers_with 1

-- the most numbers of a request
abbrev pub most_numbers : ℕ
most_numbers = numbers_with most_values

-- enough bytes for every request
abbrev pub longest : ℕ
longest = most_numbers * groups

-- gives the request for a field of a channel with these values, all others 0
abbrev pub request : ℕ → ℕ → List ℕ → Request
request field channel values = record { field = field; channel = channel; values = padded most_values values }

-- gives a request's numbers; values that its field does not use are none of them
unfoldable pub numbers_of : Request → List ℕ
numbers_of r = r.field ∷ r.channel ∷ take (value_count r.field) r.values

-- gives the request that numbers are
unfoldable pub request_of : List ℕ → Request
request_of numbers = request (get_or numbers 0 0) (get_or numbers 1 0) (drop 2 numbers)

-- gives the request's bytes: its numbers one after the other, each in its shortest form
unfoldable pub request_bytes : Request → List ℕ
request_bytes r = series.series_bytes groups (numbers_of r)

-- no number of the request is too large to be written
unfoldable pub writable : Request → Bool
writable r = series.writable groups (numbers_of r)
