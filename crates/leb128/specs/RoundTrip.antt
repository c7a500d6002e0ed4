-- What is claimed of reading and writing, once over the number of groups.
use Rattle.std.specs.Prelude.{true, List, ◌++◌, ◌≡◌, ℕ, ◌≤◌, ◌<◌, length, take}
use Rattle.std.proofs.Math.Pow.{are_bytes}
use Rattle.refusal.specs.Numbers.{none}
use Rattle.leb128.specs.Answers.{Number}
use Rattle.leb128.specs.Numbers.{largest, found}
use Rattle.leb128.specs.Encoding.{encoded}
use Rattle.leb128.specs.Decoding.{decoded}

-- a number's encoding is one to k bytes
pub record Sized (k n : ℕ) : Type 0 where
  pub some : 1 ≤ length (encoded k n)
  pub most : length (encoded k n) ≤ k
  pub bytes : are_bytes (encoded k n) ≡ true

-- the count of a number that was read exceeds neither the groups nor the bytes, and is 0 on a refusal only
pub record Counted (k : ℕ) (bytes : List ℕ) (number : Number) : Type 0 where
  pub some : number.refusal ≡ none → 1 ≤ number.used
  pub most : number.used ≤ k
  pub within : number.used ≤ length bytes

-- what was written is read back with its length, whatever follows it
abbrev pub ReadsBack : ℕ → Type 0
ReadsBack k = (n : ℕ) (rest : List ℕ) → n ≤ largest k → decoded k (encoded k n ++ rest) ≡ found n (length (encoded k n))

-- a number that was read is not too large, and is written back as the very bytes it took
pub record WritesBack (k : ℕ) (bytes : List ℕ) (number : Number) : Type 0 where
  pub small : number.value ≤ largest k
  pub same : encoded k number.value ≡ take number.used bytes

-- in at most k groups, reading undoes writing and writing undoes reading
pub record RoundTrip (k : ℕ) : Type 0 where
  pub sized : (n : ℕ) → Sized k n
  pub counted : (bytes : List ℕ) → Counted k bytes (decoded k bytes)
  pub reads_back : ReadsBack k
  pub writes_back : (bytes : List ℕ) → are_bytes bytes ≡ true → (decoded k bytes).refusal ≡ none → WritesBack k bytes (decoded k bytes)

-- Reading undoes writing and writing undoes reading, in any number of groups.
abbrev pub RoundTrips : Type 0
RoundTrips = (k : ℕ) → 0 < k → RoundTrip k
