-- The output: the frame that is being shifted out, with its place.
use Rattle.std.specs.Prelude.{ℕ, ◌+◌, ◌-◌, Bool, true, false, cond, List, ltb, leb, get_or, Option, None, Some}
use Rattle.ads1299_frame.specs.Frame.{frame_length}

-- the place of a frame's last byte, from 0
abbrev pub last_place : ℕ
last_place = frame_length - 1

-- nothing is pending
abbrev pub is_empty : Option ℕ → Bool
is_empty None = true
is_empty (Some place) = false

-- the output's place, where it has one, is in the frame
abbrev pub valid_place : Option ℕ → Bool
valid_place None = true
valid_place (Some place) = leb place last_place

-- gives the next output byte, or 0 where there is none
abbrev pub pending : Option ℕ → List ℕ → ℕ
pending None frame = 0
pending (Some place) frame = get_or frame place 0

-- gives the output after its next byte: past the last byte it starts over or is empty
abbrev pub advanced : Option ℕ → Bool → Option ℕ
advanced None again = None
advanced (Some place) again = cond (ltb place last_place) (Some (place + 1)) (cond again (Some 0) None)
