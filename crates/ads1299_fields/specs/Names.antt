-- Which fields there are, and with which channel each is named.
use Rattle.std.specs.Prelude.{Bool, true, cond, ◌&&◌, ◌||◌, ℕ, zero, suc, ◌+◌, leb, eqb}
use Rattle.cases.specs.Below.{below}
use Rattle.ads1299_registers.specs.Addresses.{channel_count}
use Rattle.ads1299_registers.specs.Channels.{is_channel}

-- fields 1 to 26
abbrev pub field_count : ℕ
field_count = 26

-- the first nine are a channel's, the others are shared
abbrev pub channel_field_count : ℕ
channel_field_count = 9

-- a channel field that stands for the nine together (document 02, No. 1): it has a place in no register
abbrev pub whole_channel : ℕ
whole_channel = 30

-- the number is a field's
abbrev pub is_field : ℕ → Bool
is_field f = leb 1 f && leb f field_count

-- a request can ask for the field: one field, or a whole channel
abbrev pub known_field : ℕ → Bool
known_field f = is_field f || eqb f whole_channel

-- the field is a channel's: the nine together, or one of them
abbrev pub channel_field : ℕ → Bool
channel_field f = eqb f whole_channel || (leb 1 f && leb f channel_field_count)

-- the field is to be named with this channel: a channel's field with its channel, a shared one with 0
abbrev pub takes_channel : ℕ → ℕ → Bool
takes_channel f n = cond (channel_field f) (is_channel n) (eqb n 0)

-- the field and the channel name bits of a register; a whole channel has none as one
unfoldable pub named : ℕ → ℕ → Bool
named f n = is_field f && takes_channel f n

-- the test passes at every field and channel that name bits of a register
unfoldable pub every_name : (ℕ → ℕ → Bool) → Bool
every_name test = below (field_count + 1) (λ f. below (channel_count + 1) (λ n. cond (named f n) (test f n) true))

-- gives the sum of what g gives at every number below k
unfoldable pub sum_below : ℕ → (ℕ → ℕ) → ℕ
sum_below zero g = 0
sum_below (suc k) g = g k + sum_below k g

-- gives how many names there are: every channel field once for each channel, and every shared field
unfoldable pub name_count : ℕ
name_count = sum_below (field_count + 1) (λ f. sum_below (channel_count + 1) (λ n. cond (named f n) 1 0))
