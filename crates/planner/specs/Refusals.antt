-- The refusals of a setting request, in the order in which they are tried (document 01, "Refusal numbers").
use Rattle.std.specs.Prelude.{ℕ, Bool, cond, not, List, [], ◌∷◌, eqb, ltb}
use Rattle.refusal.specs.Numbers.{unknown_party, unknown_field, wrong_channel, not_owner, bad_value, not_waiting, no_room, invalid_state}
use Rattle.refusal.specs.First.{first_of}
use Rattle.ads1299_serial.specs.Transfers.{is_waiting}
use Rattle.ads1299.specs.declared.Converter.{Converter}
use Rattle.parties.specs.Parties.{admin}
use Rattle.ads1299.specs.Validity.{valid}
use Rattle.parties.specs.Parties.{known_party}
use Rattle.parties.specs.Owners.{owner_of}
use Rattle.ads1299_fields.specs.Names.{known_field, channel_field, takes_channel}
use Rattle.ads1299_settings.specs.Settings.{Values}
use Rattle.planner.specs.Submission.{Submission}
use Rattle.planner.specs.Settings.{settings, all_legal}
use Rattle.planner.specs.Plan.{plan_length}

-- gives the owner of field f of channel n: a channel field's is the channel's owner, a shared field's the administrator
abbrev pub field_owner : List ℕ → ℕ → ℕ → ℕ
field_owner owners f n = cond (channel_field f) (owner_of owners n) admin

-- the tests with their numbers, given the fields' values, which none of them reads yet
abbrev pub refusals : Converter → Values → Submission → List (Bool × ℕ)
refusals s values x =
    (not (valid s), invalid_state)
    ∷ (not (known_party x.party), unknown_party)
    ∷ (not (known_field x.request.field), unknown_field)
    ∷ (not (takes_channel x.request.field x.request.channel), wrong_channel)
    ∷ (not (eqb x.party (field_owner s.owners x.request.field x.request.channel)), not_owner)
    ∷ (not (all_legal (settings x.request)), bad_value)
    ∷ (not (is_waiting s.phase), not_waiting)
    ∷ (ltb x.room (plan_length s x.request), no_room)
    ∷ []

-- gives the request's refusal number, or 0
unfoldable pub judged : Converter → Values → Submission → ℕ
judged s values x = first_of (refusals s values x)
