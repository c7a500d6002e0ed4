-- A setting request as the bench gets it (document 01: slip request).
use Rattle.std.specs.Prelude.{ℕ, ◌-◌, List, length}
use Rattle.request.specs.declared.Request.{Request}

-- a request with the party that sent it, known from the login and never part of the request, and the room for its plan
pub record Submission : Type 0 where
  pub party : ℕ
  pub request : Request
  pub room : ℕ

-- gives the room: the bytes from a place to the end of the transmit buffer, 0 if beyond
abbrev pub room_at : List ℕ → ℕ → ℕ
room_at tx at = length tx - at

-- gives a party's request for a place of a transmit buffer (document 01: sheet)
abbrev pub submission : ℕ → Request → List ℕ → ℕ → Submission
submission party request tx at = record { party = party; request = request; room = room_at tx at }
