-- What is claimed of the reader and the writer together.
use Rattle.std.specs.Prelude.{true, List, ◌++◌, ◌≡◌, ℕ, ◌+◌, ◌*◌, ◌≤◌, length, take}
use Rattle.std.proofs.Math.Pow.{are_bytes}
use Rattle.refusal.specs.Numbers.{none}
use Rattle.leb128.specs.Numbers.{groups}
use Rattle.leb128.specs.Encoding.{encoded}
use Rattle.splice.specs.Splice.{spliced}
use Rattle.request.specs.declared.Request.{Request}
use Rattle.request.specs.Answers.{Parsed}
use Rattle.request.specs.Requests.{most_values, value_count, numbers_with, numbers_of, request_of}
use Rattle.request.specs.Reading.{parsed}
use Rattle.request.specs.Writing.{written, buffer_after}

-- the count of a request that was read is at least one byte a number; at most the field's own bytes and the most groups for each
-- other number; within the bytes; and 0 on a refusal
pub record Counted (bytes : List ℕ) (read : Parsed) : Type 0 where
  pub least : read.refusal ≡ none → numbers_with (value_count read.request.field) ≤ read.used
  pub most : read.used ≤ length (encoded groups read.request.field) + (1 + value_count read.request.field) * groups
  pub within : read.used ≤ length bytes
  pub nothing : (read.refusal ≡ none → ⊥) → read.used ≡ 0

-- a reader can give the request: it is its numbers, and so the values that its field does not use are 0
abbrev pub Readable : Request → Type 0
Readable r = request_of (numbers_of r) ≡ r

-- a request that was written is read as another, with its count, whatever follows it
abbrev pub ReadsAs : Request → Request → List ℕ → List ℕ → Type 0
ReadsAs r back buffer rest =
    parsed (take (written r buffer).used (buffer_after r buffer) ++ rest) ≡ record { refusal = none; request = back; used = (written r buffer).used }

-- a request that was read is written back, into any buffer long enough, as the very bytes that it was read from
pub record WritesBack (bytes buffer : List ℕ) (read : Parsed) : Type 0 where
  pub answer : written read.request buffer ≡ record { refusal = none; used = read.used }
  pub same : buffer_after read.request buffer ≡ spliced buffer 0 (take read.used bytes)

-- Reading undoes writing, of every request that a reader can give, and of any other but that unused values come back as 0; and writing
-- undoes reading.
pub record RoundTrip : Type 0 where
  pub counted : (bytes : List ℕ) → Counted bytes (parsed bytes)
  pub readable : (bytes : List ℕ) → Readable (parsed bytes).request
  pub reads_back : (r : Request) (buffer rest : List ℕ) → Readable r → (written r buffer).refusal ≡ none → ReadsAs r r buffer rest
  pub reads_numbers : (r : Request) (buffer rest : List ℕ) → length r.values ≡ most_values → (written r buffer).refusal ≡ none
      → ReadsAs r (request_of (numbers_of r)) buffer rest
  pub writes_back : (bytes buffer : List ℕ) → are_bytes bytes ≡ true → (parsed bytes).refusal ≡ none → (parsed bytes).used ≤ length buffer
      → WritesBack bytes buffer (parsed bytes)
