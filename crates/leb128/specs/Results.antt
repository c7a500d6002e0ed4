-- For every case of what the code hands back, the answer.
use Rattle.std.specs.Prelude.{ℕ, [], Result, Ok, Err}
use Rattle.refusal.specs.Numbers.{none}
use Rattle.refusal.specs.declared.Refusal.{Refusal}
use Rattle.refusal.specs.Refusals.{number_of}
use Rattle.leb128.specs.declared.Decoded.{Decoded}
use Rattle.leb128.specs.declared.Encoded as code
use Rattle.leb128.specs.Answers.{Number, Encoded}
use Rattle.leb128.specs.Numbers.{groups}
use Rattle.leb128.specs.Encoding.{padded}

-- gives the answer of reading
abbrev pub read_answer : Result (Decoded ℕ) Refusal → Number
read_answer (Ok number) = record { refusal = none; value = number.value; used = number.used }
read_answer (Err refusal) = record { refusal = number_of refusal; value = 0; used = 0 }

-- gives the answer of writing
abbrev pub encode_answer : Result code.Encoded Refusal → Encoded
encode_answer (Ok number) = record { refusal = none; bytes = number.bytes; used = number.used }
encode_answer (Err refusal) = record { refusal = number_of refusal; bytes = padded groups []; used = 0 }
