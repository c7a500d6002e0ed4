-- The refusal numbers of document 01 ("Refusal numbers") and of document 02, by name.
use Rattle.std.specs.Prelude.{ℕ}

-- 0 is success
abbrev pub none : ℕ
none = 0

-- the request ends inside or before a number
abbrev pub truncated : ℕ
truncated = 1

-- a group after the first is 0, or there are too many groups
abbrev pub malformed : ℕ
malformed = 2

-- a party above the largest
abbrev pub unknown_party : ℕ
unknown_party = 3

-- no field has this number
abbrev pub unknown_field : ℕ
unknown_field = 4

-- no such channel; or a shared field that is named with a channel
abbrev pub wrong_channel : ℕ
wrong_channel = 5

-- the party is not the owner
abbrev pub not_owner : ℕ
not_owner = 6

-- the value is too wide for the field or refused there; a number is too large to be written
abbrev pub bad_value : ℕ
bad_value = 7

-- the converter is half through a command; an ADS7953 half through the programming of its list
abbrev pub not_waiting : ℕ
not_waiting = 8

-- fewer bytes than the plan or the request needs
abbrev pub no_room : ℕ
no_room = 9

-- a sample while the converter is stopped or in standby
abbrev pub not_converting : ℕ
not_converting = 10

-- not eight codes, or a code out of range; of an ADS7953 a code above 12 bits
abbrev pub bad_sample : ℕ
bad_sample = 11

-- not 27 bytes, or not starting 1100
abbrev pub bad_frame : ℕ
bad_frame = 12

-- a state that no converter can be in, or an ID that is not an ADS1299's; of an ADS7953 a number too wide for its bits
abbrev pub invalid_state : ℕ
invalid_state = 13

-- more program input than is taken
abbrev pub input_too_long : ℕ
input_too_long = 14

-- a list of channels with no channel in it (document 02, No. 6)
abbrev pub empty_list : ℕ
empty_list = 16
