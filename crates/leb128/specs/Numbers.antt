-- Numbers in groups of seven bits, and what reading one answers.
use Rattle.std.specs.Prelude.{ℕ, ◌-◌, ◌^◌}
use Rattle.refusal.specs.Numbers.{none}
use Rattle.leb128.specs.Answers.{Number}

-- how many values a group has; a group that another one follows stands in its byte with this added
abbrev pub base : ℕ
base = 128

-- the most groups that a request's number has
abbrev pub groups : ℕ
groups = 2

-- gives the largest number that k groups hold
abbrev pub largest : ℕ → ℕ
largest k = base ^ k - 1

-- gives the answer that is a number and the count of its bytes
abbrev pub found : ℕ → ℕ → Number
found n used = record { refusal = none; value = n; used = used }

-- gives the answer of a refusal: all else is 0
abbrev pub refused : ℕ → Number
refused number = record { refusal = number; value = 0; used = 0 }
