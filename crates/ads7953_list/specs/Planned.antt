-- The plan of an auto-1 channel list, and what is answered (document 02, No. 6).
use Rattle.std.specs.Prelude.{ℕ, ◌/◌, ◌%◌, Bool, cond, not, List, [], ◌∷◌, eqb, ltb}
use Rattle.refusal.specs.Numbers.{none, unknown_party, not_owner, not_waiting, no_room, invalid_state, empty_list}
use Rattle.refusal.specs.First.{first_of, accepted}
use Rattle.parties.specs.Parties.{known_party, is_admin}
use Rattle.splice.specs.Splice.{spliced, room_at}
use Rattle.ads7953.specs.declared.Ads7953.{Ads7953}
use Rattle.ads7953.specs.Frame.{valid}
use Rattle.ads7953_list.specs.Answers.{ListPlanned}

-- gives the plan: 80 00 and the list, high byte first
abbrev pub list_plan : ℕ → List ℕ
list_plan list = 0x80 ∷ 0x00 ∷ (list / 256) ∷ (list % 256) ∷ []

-- the plan's length
abbrev pub list_plan_length : ℕ
list_plan_length = 4

-- the refusals of a list, in the order in which they are tried, by the room for the plan
abbrev pub list_refusals : Ads7953 → ℕ → ℕ → ℕ → List (Bool × ℕ)
list_refusals s party list room =
    (not (valid s), invalid_state)
    ∷ (not (known_party party), unknown_party)
    ∷ (not (is_admin party), not_owner)
    ∷ (eqb list 0, empty_list)
    ∷ (s.programming, not_waiting)
    ∷ (ltb room list_plan_length, no_room)
    ∷ []

-- gives the list's refusal number, or 0
unfoldable pub list_refusal : Ads7953 → ℕ → ℕ → ℕ → ℕ
list_refusal s party list room = first_of (list_refusals s party list room)

-- gives the answer: the refusal and the plan's length
unfoldable pub list_planned : Ads7953 → ℕ → ℕ → ℕ → ListPlanned
list_planned s party list room =
    cond (accepted (list_refusal s party list room))
    (record { refusal = none; length = list_plan_length })
    (record { refusal = list_refusal s party list room; length = 0 })

-- gives the transmit buffer (document 01: sheet) after it: the plan from the place on, or all as it was where it is refused
unfoldable pub list_tx_after : Ads7953 → ℕ → ℕ → List ℕ → ℕ → List ℕ
list_tx_after s party list tx at = cond (accepted (list_refusal s party list (room_at tx at))) (spliced tx at (list_plan list)) tx
