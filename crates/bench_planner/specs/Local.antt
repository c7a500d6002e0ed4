-- A setting request for the bench, as the converter that it names takes it.
use Rattle.std.specs.Prelude.{ℕ}
use Rattle.request.specs.declared.Request.{Request}
use Rattle.planner.specs.Submission.{Submission}
use Rattle.lines.specs.Lines.{converter_of, local_channel}

-- gives the number of the converter that a request names
abbrev pub target : Submission → ℕ
target x = converter_of x.request.channel

-- gives the request with the channel as that converter counts it
unfoldable pub local_request : Request → Request
local_request r = record { field = r.field; channel = local_channel r.channel; values = r.values }

-- gives the submission with that request
abbrev pub localised : Submission → Submission
localised x = record { party = x.party; request = local_request x.request; room = x.room }
