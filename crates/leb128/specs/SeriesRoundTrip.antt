-- What is claimed of reading and writing a series of numbers, once over the number of groups and the count of numbers.
use Rattle.std.specs.Prelude.{true, List, ◌++◌, ◌≡◌, ℕ, ◌*◌, ◌≤◌, ◌<◌, length, take}
use Rattle.std.proofs.Math.Pow.{are_bytes}
use Rattle.refusal.specs.Numbers.{none}
use Rattle.refusal.specs.First.{first_of}
use Rattle.leb128.specs.Series.{Series, series, series_bytes, writable}

-- no number of the series is refused
abbrev pub Accepted : Series → Type 0
Accepted found = first_of found.refusals ≡ none

-- the bytes of a series that was read are one or more a number unless it is refused, at most k a number, and within those given
pub record Counted (k count : ℕ) (bytes : List ℕ) (found : Series) : Type 0 where
  pub least : Accepted found → count ≤ found.used
  pub most : found.used ≤ count * k
  pub within : found.used ≤ length bytes

-- numbers that were written are found again, with the count of their bytes
pub record ReadsBack (k : ℕ) (written : List ℕ) (found : Series) : Type 0 where
  pub accepted : Accepted found
  pub same : found.numbers ≡ written
  pub count : found.used ≡ length (series_bytes k written)

-- none of the numbers that were read is too large, and they are written back as the very bytes they took
pub record WritesBack (k : ℕ) (bytes : List ℕ) (found : Series) : Type 0 where
  pub small : writable k found.numbers ≡ true
  pub same : series_bytes k found.numbers ≡ take found.used bytes

-- in at most k groups a number, reading a series undoes writing it, whatever follows, and writing undoes reading
pub record SeriesRoundTrip (k : ℕ) : Type 0 where
  pub many : (count : ℕ) (bytes : List ℕ) → length (series k count bytes).numbers ≡ count
  pub counted : (count : ℕ) (bytes : List ℕ) → Counted k count bytes (series k count bytes)
  pub reads_back : (numbers rest : List ℕ) → writable k numbers ≡ true
      → ReadsBack k numbers (series k (length numbers) (series_bytes k numbers ++ rest))
  pub writes_back : (count : ℕ) (bytes : List ℕ) → are_bytes bytes ≡ true → Accepted (series k count bytes)
      → WritesBack k bytes (series k count bytes)

-- Reading a series of numbers undoes writing it and writing undoes reading, of any count and in any number of groups.
abbrev pub SeriesRoundTrips : Type 0
SeriesRoundTrips = (k : ℕ) → 0 < k → SeriesRoundTrip k
