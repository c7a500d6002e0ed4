-- Bytes laid over a buffer from a place on.
use Rattle.std.specs.Prelude.{ℕ, ◌+◌, ◌-◌, List, ◌++◌, length, take, drop}

-- gives the buffer with bytes laid over it from a place on; those before and after stay. Asked only where the bytes fit
abbrev pub spliced : List ℕ → ℕ → List ℕ → List ℕ
spliced buffer at bytes = take at buffer ++ bytes ++ drop (at + length bytes) buffer

-- gives the room: the bytes from a place to the end of a buffer, 0 if the place lies beyond
abbrev pub room_at : List ℕ → ℕ → ℕ
room_at buffer at = length buffer - at
