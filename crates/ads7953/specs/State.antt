-- The state with one part changed and all else as it is.
use Rattle.std.specs.Prelude.{ℕ, Bool}
use Rattle.ads7953.specs.declared.Mode.{Mode}
use Rattle.ads7953.specs.declared.Ads7953.{Ads7953}

-- gives a state from all its parts
abbrev pub state : Mode → ℕ → ℕ → ℕ → ℕ → Bool → Bool → Bool → Bool → Ads7953
state mode channel ordered list last range2 reset programming first =
    record {
      mode = mode;
      channel = channel;
      ordered = ordered;
      list = list;
      last = last;
      range2 = range2;
      reset = reset;
      programming = programming;
      first = first;
    }

abbrev pub with_mode : Ads7953 → Mode → Ads7953
with_mode s x = state x s.channel s.ordered s.list s.last s.range2 s.reset s.programming s.first

abbrev pub with_channel : Ads7953 → ℕ → Ads7953
with_channel s x = state s.mode x s.ordered s.list s.last s.range2 s.reset s.programming s.first

abbrev pub with_ordered : Ads7953 → ℕ → Ads7953
with_ordered s x = state s.mode s.channel x s.list s.last s.range2 s.reset s.programming s.first

abbrev pub with_list : Ads7953 → ℕ → Ads7953
with_list s x = state s.mode s.channel s.ordered x s.last s.range2 s.reset s.programming s.first

abbrev pub with_last : Ads7953 → ℕ → Ads7953
with_last s x = state s.mode s.channel s.ordered s.list x s.range2 s.reset s.programming s.first

abbrev pub with_range2 : Ads7953 → Bool → Ads7953
with_range2 s x = state s.mode s.channel s.ordered s.list s.last x s.reset s.programming s.first

abbrev pub with_reset : Ads7953 → Bool → Ads7953
with_reset s x = state s.mode s.channel s.ordered s.list s.last s.range2 x s.programming s.first

abbrev pub with_programming : Ads7953 → Bool → Ads7953
with_programming s x = state s.mode s.channel s.ordered s.list s.last s.range2 s.reset x s.first

abbrev pub with_first : Ads7953 → Bool → Ads7953
with_first s x = state s.mode s.channel s.ordered s.list s.last s.range2 s.reset s.programming x
