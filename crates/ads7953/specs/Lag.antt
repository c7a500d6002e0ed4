-- The lag between a word and its reply, claimed of lists of frames.
use Rattle.std.specs.Prelude.{ℕ, ◌+◌, ◌<◌, true, cond, List, ◌≡◌, length, get_or}
use Rattle.ads7953.specs.declared.Ads7953.{Ads7953}
use Rattle.ads7953.specs.Frame.{valid, replied}
use Rattle.ads7953.specs.Run.{Sent, words_of, codes_of, codes_fit, replies, orders}

-- reply n + 2 has the channel that word n ordered and its own frame's code; the first two replies have what was ordered before
pub record Lagging (s : Ads7953) (frames : List Sent) : Type 0 where
  pub first : 0 < length frames → get_or (replies s frames) 0 0 ≡ cond s.first 0 (replied s.channel (get_or (codes_of frames) 0 0))
  pub second : 1 < length frames → get_or (replies s frames) 1 0 ≡ replied s.ordered (get_or (codes_of frames) 1 0)
  pub later : (n : ℕ) → n + 2 < length frames → get_or (replies s frames) (n + 2) 0 ≡ replied (get_or (orders s (words_of frames)) n 0) (get_or (codes_of frames) (n + 2) 0)

-- Whatever the mode and the words, the channel that a word orders is replied two frames later.
abbrev pub RepliedTwoLater : Type 0
RepliedTwoLater = (s : Ads7953) (frames : List Sent) → valid s ≡ true → codes_fit frames ≡ true → Lagging s frames
