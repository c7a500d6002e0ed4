-- What is claimed of values that a request's field does not use.
use Rattle.std.specs.Prelude.{◌≡◌}
use Rattle.ads1299.specs.declared.Converter.{Converter}
use Rattle.ads1299_settings.specs.Settings.{Values}
use Rattle.request.specs.declared.Request.{Request}
use Rattle.request.specs.Requests.{numbers_of, request_of}
use Rattle.planner.specs.Submission.{Submission}
use Rattle.planner.specs.Settings.{settings}
use Rattle.planner.specs.Refusals.{judged}
use Rattle.planner.specs.Planned.{plan, planned}

-- gives the submission with its request's own numbers: values that the field does not use are 0
abbrev pub numbered : Submission → Submission
numbered x = record { party = x.party; request = request_of (numbers_of x.request); room = x.room }

-- Nothing looks at values that a request's field does not use: not what it sets, its refusal whatever the fields' values are, its plan, nor
-- its answer.
pub record UnusedValues : Type 0 where
  pub same_settings : (r : Request) → settings (request_of (numbers_of r)) ≡ settings r
  pub same_refusal : (s : Converter) (values : Values) (x : Submission) → judged s values (numbered x) ≡ judged s values x
  pub same_plan : (s : Converter) (x : Submission) → plan s (numbered x) ≡ plan s x
  pub same_answer : (s : Converter) (x : Submission) → planned s (numbered x) ≡ planned s x
