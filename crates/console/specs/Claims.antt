-- What is claimed of the transcript beyond its definition.
use Rattle.std.specs.Prelude.{ℕ, ◌≤◌, ◌<◌, ◌≡◌, List, ◌++◌, length, drop}
use Rattle.ads1299.specs.declared.Converter.{Converter}
use Rattle.console.specs.Turn.{printed, next_state, consumed}
use Rattle.console.specs.Transcript.{longest_transcript, session, transcript_of}

-- No transcript is longer than the longest, whatever the input.
abbrev pub AlwaysFits : Type 0
AlwaysFits = (input : List ℕ) → length (transcript_of input) ≤ longest_transcript

-- A session is its first request's line and the session of what that leaves; none is cut short.
abbrev pub OneByOne : Type 0
OneByOne = (s : Converter) (party : ℕ) (bytes : List ℕ) → 0 < length bytes
    → session s party bytes ≡ printed s party bytes ++ session (next_state s party bytes) party (drop (consumed bytes) bytes)
