-- The numbers of the refusals (document 01, "Refusal numbers"; document 02 adds 16), and of answers that are a refusal or none.
use Rattle.std.specs.Prelude.{ℕ, Option, None, Some, Result, Ok, Err}
use Rattle.refusal.specs.Numbers.{none, truncated, malformed, unknown_party, unknown_field, wrong_channel, not_owner, bad_value, not_waiting, no_room, not_converting, bad_sample, bad_frame, invalid_state, input_too_long, empty_list}
use Rattle.refusal.specs.declared.Refusal.{Refusal}
use Rattle.refusal.specs.declared.Refusal.TheVariants.{Truncated, Malformed, UnknownParty, UnknownField, WrongChannel, NotOwner, BadValue, NotWaiting, NoRoom, NotConverting, BadSample, BadFrame, InvalidState, InputTooLong, EmptyList}

-- gives a refusal's number
abbrev pub number_of : Refusal → ℕ
number_of Truncated = truncated
number_of Malformed = malformed
number_of UnknownParty = unknown_party
number_of UnknownField = unknown_field
number_of WrongChannel = wrong_channel
number_of NotOwner = not_owner
number_of BadValue = bad_value
number_of NotWaiting = not_waiting
number_of NoRoom = no_room
number_of NotConverting = not_converting
number_of BadSample = bad_sample
number_of BadFrame = bad_frame
number_of InvalidState = invalid_state
number_of InputTooLong = input_too_long
number_of EmptyList = empty_list

-- gives the number of a refusal where there is one, else 0
abbrev pub number_in : Option Refusal → ℕ
number_in None = none
number_in (Some refusal) = number_of refusal

-- gives the number of an answer: 0 where it is not refused
abbrev pub answer_number : {A : Type 0} → Result A Refusal → ℕ
answer_number (Ok value) = none
answer_number (Err refusal) = number_of refusal
