-- Which channel comes next in each mode, and with which a mode starts (document 001, Tables 2 to 7).
use Rattle.std.specs.Prelude.{ℕ, zero, suc, ◌+◌, ◌-◌, Bool, cond, ltb, Option, None, Some}
use Rattle.bits.specs.Fields.{bit}
use Rattle.ads7953.specs.declared.Mode.{Mode}
use Rattle.ads7953.specs.declared.Mode.TheVariants.{Manual, Auto1, Auto2}

-- the channels are 0 to 15
abbrev pub channel_count : ℕ
channel_count = 16

-- the list has a channel: bit n is for channel n
abbrev pub listed : ℕ → ℕ → Bool
listed list channel = bit list channel

-- gives the lowest listed of so many channels, from one on; where there is none, the number after them
unfoldable pub listed_among : ℕ → ℕ → ℕ → ℕ
listed_among list channel zero = channel
listed_among list channel (suc more) = cond (listed list channel) channel (listed_among list (channel + 1) more)

-- gives the lowest listed channel from one on; where there is none, a number above every channel
unfoldable pub listed_from : ℕ → ℕ → ℕ
listed_from list channel = listed_among list channel (channel_count - channel)

-- gives the same, or None where there is none
unfoldable pub found_from : ℕ → ℕ → Option ℕ
found_from list channel = cond (ltb (listed_from list channel) channel_count) (Some (listed_from list channel)) None

-- gives the lowest listed channel; with an empty list the present one
unfoldable pub lowest_listed : ℕ → ℕ → ℕ
lowest_listed list present = cond (ltb (listed_from list 0) channel_count) (listed_from list 0) present

-- gives the next listed channel above the present one, or else the lowest
unfoldable pub next_listed : ℕ → ℕ → ℕ
next_listed list present =
    cond (ltb (listed_from list (present + 1)) channel_count) (listed_from list (present + 1)) (lowest_listed list present)

-- gives the channel after the present one, up to the last, then 0; a present one above the last goes to 0
unfoldable pub next_up_to : ℕ → ℕ → ℕ
next_up_to last present = cond (ltb present last) (present + 1) 0

-- gives the channel after the present one in a mode: manual mode stays on its channel
abbrev pub next_in : Mode → ℕ → ℕ → ℕ → ℕ
next_in Manual list last present = present
next_in Auto1 list last present = next_listed list present
next_in Auto2 list last present = next_up_to last present

-- gives the channel that a mode starts with; manual mode has none of its own, its word names one
abbrev pub start_in : Mode → ℕ → ℕ → ℕ
start_in Manual list present = present
start_in Auto1 list present = lowest_listed list present
start_in Auto2 list present = 0
