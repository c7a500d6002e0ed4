-- A series of numbers, one after the other, each of at most k groups: what a request is made of.
use Rattle.std.specs.Prelude.{Bool, not, List, [], ◌∷◌, ◌++◌, ℕ, zero, suc, ◌+◌, leb, drop}
use Rattle.refusal.specs.First.{accepted}
use Rattle.cases.specs.Every.{every}
use Rattle.leb128.specs.Answers.{Number}
use Rattle.leb128.specs.Numbers.{largest}
use Rattle.leb128.specs.Encoding.{encoded}
use Rattle.leb128.specs.Decoding.{decoded}

-- what is read as a series: each number's refusal from left to right, the numbers, and the count of their bytes
pub record Series : Type 0 where
  pub refusals : List (Bool × ℕ)
  pub numbers : List ℕ
  pub used : ℕ

-- the number is refused, and by what
abbrev pub refusal_of : Number → Bool × ℕ
refusal_of number = (not (accepted number.refusal), number.refusal)

-- gives a number, and the series after it
abbrev pub followed_by : Number → Series → Series
followed_by number rest =
    record {
      refusals = refusal_of number ∷ rest.refusals;
      numbers = number.value ∷ rest.numbers;
      used = number.used + rest.used;
    }

-- gives the series of so many numbers that the bytes start with; what follows a refused number means nothing
unfoldable pub series : ℕ → ℕ → List ℕ → Series
series k zero bytes = record { refusals = []; numbers = []; used = 0 }
series k (suc count) bytes = followed_by (decoded k bytes) (series k count (drop (decoded k bytes).used bytes))

-- gives the bytes of numbers, one after the other, each in its shortest form
unfoldable pub series_bytes : ℕ → List ℕ → List ℕ
series_bytes k [] = []
series_bytes k (number ∷ numbers) = encoded k number ++ series_bytes k numbers

-- no number is too large to be written
unfoldable pub writable : ℕ → List ℕ → Bool
writable k numbers = every (λ number. leb number (largest k)) numbers
