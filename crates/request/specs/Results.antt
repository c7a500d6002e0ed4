-- For every case of what the code hands back, the answer.
use Rattle.std.specs.Prelude.{ℕ, [], Result, Ok, Err}
use Rattle.refusal.specs.Numbers.{none}
use Rattle.refusal.specs.declared.Refusal.{Refusal}
use Rattle.refusal.specs.Refusals.{number_of}
use Rattle.leb128.specs.declared.Decoded.{Decoded}
use Rattle.request.specs.declared.Request.{Request}
use Rattle.request.specs.Answers.{Parsed, Written}
use Rattle.request.specs.Requests.{request}

-- gives the answer of reading
abbrev pub read_answer : Result (Decoded Request) Refusal → Parsed
read_answer (Ok found) = record { refusal = none; request = found.value; used = found.used }
read_answer (Err refusal) = record { refusal = number_of refusal; request = request 0 0 []; used = 0 }

-- gives the answer of writing
abbrev pub write_answer : Result ℕ Refusal → Written
write_answer (Ok used) = record { refusal = none; used = used }
write_answer (Err refusal) = record { refusal = number_of refusal; used = 0 }
