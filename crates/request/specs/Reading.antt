-- The request that bytes start with. Whether its field, channel and values make sense is not judged here.
use Rattle.std.specs.Prelude.{Bool, cond, List, [], ℕ}
use Rattle.refusal.specs.Numbers.{none}
use Rattle.refusal.specs.First.{first_of, accepted}
use Rattle.leb128.specs.Numbers.{groups}
use Rattle.leb128.specs.Decoding.{decoded}
use Rattle.leb128.specs.Series.{Series, series}
use Rattle.request.specs.Answers.{Parsed}
use Rattle.request.specs.Requests.{value_count, numbers_with, request, request_of}

-- gives how many numbers are to be read: the field says it, whatever the channel
unfoldable pub numbers_in : List ℕ → ℕ
numbers_in bytes = numbers_with (value_count (decoded groups bytes).value)

-- gives the numbers as they are read
unfoldable pub numbers_read : List ℕ → Series
numbers_read bytes = series groups (numbers_in bytes) bytes

-- the refusals of a request's bytes, from left to right
abbrev pub read_refusals : List ℕ → List (Bool × ℕ)
read_refusals bytes = (numbers_read bytes).refusals

-- gives the refusal of the first number that has one, or 0
unfoldable pub read_refusal : List ℕ → ℕ
read_refusal bytes = first_of (read_refusals bytes)

-- gives the answer of a refusal: all else is 0
abbrev pub refused : ℕ → Parsed
refused number = record { refusal = number; request = request 0 0 []; used = 0 }

-- gives the request and the count of its bytes, or the refusal; bytes after its last number are not looked at
unfoldable pub parsed : List ℕ → Parsed
parsed bytes =
    cond (accepted (read_refusal bytes))
    (record { refusal = none; request = request_of (numbers_read bytes).numbers; used = (numbers_read bytes).used })
    (refused (read_refusal bytes))
