-- What the program does with a reader and a writer, of which all is known that they hold.
use Rattle.std.specs.Prelude.{ℕ, ◌+◌, ◌≤◌, List, Option, Result, length, OnOk}
use Rattle.std.specs.Io.KnownBytes.{Consumes, Appends}
use Rattle.console.specs.Transcript.{input_limit, transcript_of}

-- an input was read, no longer than one byte more than is taken, and where all could be written its transcript was
pub record Answers {E : Type 0} (left left' held held' : Option (List ℕ)) (written : Result (Unit {0}) E) : Type 0 where
  pub input : List ℕ
  pub short : length input ≤ input_limit + 1
  pub read : Consumes left left' input
  pub printed : OnOk written (Appends held held' (transcript_of input))
