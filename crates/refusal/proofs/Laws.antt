-- The numbers are told apart by the refusal that each one names.
use Rattle.std.specs.Prelude.{ℕ, false, cond, eqb, ◌≡◌}
use mathlib.Core.Path.{refl, ◌∙◌, ap, sym}
use Rattle.refusal.specs.Numbers.{truncated, malformed, unknown_party, unknown_field, wrong_channel, not_owner, bad_value, not_waiting, no_room, not_converting, bad_sample, bad_frame, invalid_state, input_too_long}
use Rattle.refusal.specs.declared.Refusal.{Refusal}
use Rattle.refusal.specs.declared.Refusal.TheVariants.{Truncated, Malformed, UnknownParty, UnknownField, WrongChannel, NotOwner, BadValue, NotWaiting, NoRoom, NotConverting, BadSample, BadFrame, InvalidState, InputTooLong, EmptyList}
use Rattle.refusal.specs.First.{accepted}
use Rattle.refusal.specs.Refusals.{number_of}
use Rattle.refusal.specs.Laws.{NumbersTell}

pub refused_lem : (r : Refusal) → accepted (number_of r) ≡ false
refused_lem Truncated = refl
refused_lem Malformed = refl
refused_lem UnknownParty = refl
refused_lem UnknownField = refl
refused_lem WrongChannel = refl
refused_lem NotOwner = refl
refused_lem BadValue = refl
refused_lem NotWaiting = refl
refused_lem NoRoom = refl
refused_lem NotConverting = refl
refused_lem BadSample = refl
refused_lem BadFrame = refl
refused_lem InvalidState = refl
refused_lem InputTooLong = refl
refused_lem EmptyList = refl

-- gives the refusal of a number; of a number that is none's, any
abbrev named : ℕ → Refusal
named n =
    cond (eqb n truncated) Truncated
    (cond (eqb n malformed) Malformed
    (cond (eqb n unknown_party) UnknownParty
    (cond (eqb n unknown_field) UnknownField
    (cond (eqb n wrong_channel) WrongChannel
    (cond (eqb n not_owner) NotOwner
    (cond (eqb n bad_value) BadValue
    (cond (eqb n not_waiting) NotWaiting
    (cond (eqb n no_room) NoRoom
    (cond (eqb n not_converting) NotConverting
    (cond (eqb n bad_sample) BadSample
    (cond (eqb n bad_frame) BadFrame
    (cond (eqb n invalid_state) InvalidState
    (cond (eqb n input_too_long) InputTooLong EmptyList)))))))))))))

named_back : (r : Refusal) → named (number_of r) ≡ r
named_back Truncated = refl
named_back Malformed = refl
named_back UnknownParty = refl
named_back UnknownField = refl
named_back WrongChannel = refl
named_back NotOwner = refl
named_back BadValue = refl
named_back NotWaiting = refl
named_back NoRoom = refl
named_back NotConverting = refl
named_back BadSample = refl
named_back BadFrame = refl
named_back InvalidState = refl
named_back InputTooLong = refl
named_back EmptyList = refl

pub numbers_tell : NumbersTell
numbers_tell = record {
  refused = refused_lem;
  apart = λ r q e. sym (named_back r) ∙ ap named e ∙ named_back q;
}
