-- Frames one after the other.
use Rattle.std.specs.Prelude.{ℕ, Bool, List, [], ◌∷◌, map, ltb}
use Rattle.cases.specs.Every.{every}
use Rattle.ads7953.specs.declared.Ads7953.{Ads7953}
use Rattle.ads7953.specs.Latch.{latched}
use Rattle.ads7953.specs.Frame.{code_count, framed}

-- a frame as it is sent: its word, and the code of the channel that it samples
pub record Sent : Type 0 where
  pub word : ℕ
  pub code : ℕ

-- gives a frame to send
abbrev pub sent : ℕ → ℕ → Sent
sent word code = record { word = word; code = code }

-- gives the words of some frames
abbrev pub words_of : List Sent → List ℕ
words_of frames = map (λ (f : Sent). f.word) frames

-- gives the codes of some frames
abbrev pub codes_of : List Sent → List ℕ
codes_of frames = map (λ (f : Sent). f.code) frames

-- every code has 12 bits
abbrev pub codes_fit : List Sent → Bool
codes_fit frames = every (λ (f : Sent). ltb f.code code_count) frames

-- gives the state after some frames
unfoldable pub after : Ads7953 → List Sent → Ads7953
after s [] = s
after s (f ∷ frames) = after (framed s f.word f.code).next frames

-- gives the replies meanwhile
unfoldable pub replies : Ads7953 → List Sent → List ℕ
replies s [] = []
replies s (f ∷ frames) = (framed s f.word f.code).reply ∷ replies (framed s f.word f.code).next frames

-- gives the channels that some words order, each latched after the other: no multiplexer, code or reply is in sight
unfoldable pub orders : Ads7953 → List ℕ → List ℕ
orders s [] = []
orders s (w ∷ words) = (latched s w).ordered ∷ orders (latched s w) words
