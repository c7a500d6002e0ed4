-- One request (document 01: slip) of the program's input: what it prints, and what it leaves for the next.
use Rattle.std.specs.Prelude.{ℕ, Bool, cond, List, [], length, replicate}
use Rattle.refusal.specs.First.{accepted}
use Rattle.ads1299_registers.specs.Addresses.{channel_count}
use Rattle.request.specs.declared.Request.{Request}
use Rattle.request.specs.Reading.{parsed}
use Rattle.ads1299.specs.declared.Converter.{Converter}
use Rattle.ads1299.specs.State.{with_owners}
use Rattle.ads1299.specs.PowerUp.{powered_up}
use Rattle.planner.specs.Submission.{Submission}
use Rattle.planner.specs.Planned.{plan, planned}
use Rattle.console.specs.declared.Turn.{Turn}
use Rattle.planner.specs.Plan.{longest_plan}
use Rattle.console.specs.Line.{line}

-- the converter's ID
abbrev pub id : ℕ
id = 0x3E

-- the party that every channel belongs to
abbrev pub owner : ℕ
owner = 1

-- gives the converter that the program begins with
unfoldable pub fresh : Converter
fresh = with_owners (powered_up id).converter (replicate channel_count owner)

-- a request can be read from the bytes
abbrev pub is_read : List ℕ → Bool
is_read bytes = accepted (parsed bytes).refusal

-- gives a party's request as the planner gets it: there is always room
abbrev pub asked : ℕ → Request → Submission
asked party request = record { party = party; request = request; room = longest_plan }

-- gives the party's request as the planner gets it: the party is no part of the bytes
abbrev pub submitted : ℕ → List ℕ → Submission
submitted party bytes = asked party (parsed bytes).request

-- gives the line of an answered request
abbrev pub answered : Converter → Submission → List ℕ
answered s x = line (planned s x).refusal (plan s x)

-- gives the line of the bytes' first request, or that of the refusal to read it
unfoldable pub printed : Converter → ℕ → List ℕ → List ℕ
printed s party bytes = cond (is_read bytes) (answered s (submitted party bytes)) (line (parsed bytes).refusal [])

-- gives the state that the request leaves
unfoldable pub next_state : Converter → ℕ → List ℕ → Converter
next_state s party bytes = cond (is_read bytes) (planned s (submitted party bytes)).next s

-- counts the bytes that are done with: the request's, or all where none is read, since the program stops there
unfoldable pub consumed : List ℕ → ℕ
consumed bytes = cond (is_read bytes) (parsed bytes).used (length bytes)

-- gives all that one request leaves beside its line
unfoldable pub turn : Converter → ℕ → List ℕ → Turn
turn s party bytes = record { used = consumed bytes; next = next_state s party bytes }
