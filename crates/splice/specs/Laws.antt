-- What is claimed of bytes that are laid over a buffer, once over the place and the bytes.
use Rattle.std.specs.Prelude.{ℕ, ◌+◌, ◌≤◌, List, [], ◌++◌, ◌≡◌, length, take, drop}
use Rattle.std.proofs.lemmas.List.Edits.{sets}
use Rattle.splice.specs.Splice.{spliced}

-- the buffer is as long as it was, the bytes lie in it from the place on, and every byte before and after them is as it was
pub record Laid (buffer : List ℕ) (at : ℕ) (bytes : List ℕ) : Type 0 where
  pub size : length (spliced buffer at bytes) ≡ length buffer
  pub found : take (length bytes) (drop at (spliced buffer at bytes)) ≡ bytes
  pub before : take at (spliced buffer at bytes) ≡ take at buffer
  pub after : drop (at + length bytes) (spliced buffer at bytes) ≡ drop (at + length bytes) buffer

-- Bytes that fit lie in the buffer, and change nothing else there.
abbrev pub FittingLaid : Type 0
FittingLaid = (buffer : List ℕ) (at : ℕ) (bytes : List ℕ) → at + length bytes ≤ length buffer → Laid buffer at bytes

-- Storing the bytes one by one from the place on lays them.
abbrev pub StoresSplice : Type 0
StoresSplice = (buffer : List ℕ) (at : ℕ) (bytes : List ℕ) → at + length bytes ≤ length buffer → sets buffer at bytes ≡ spliced buffer at bytes

-- Bytes laid right after others are laid with them.
abbrev pub SplicesJoin : Type 0
SplicesJoin =
    (buffer : List ℕ) (at : ℕ) (first second : List ℕ) → at + (length first + length second) ≤ length buffer
    → spliced (spliced buffer at first) (at + length first) second ≡ spliced buffer at (first ++ second)

-- No bytes change nothing.
abbrev pub NothingSpliced : Type 0
NothingSpliced = (buffer : List ℕ) (at : ℕ) → spliced buffer at [] ≡ buffer
