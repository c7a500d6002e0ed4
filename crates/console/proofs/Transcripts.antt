-- The transcript by cases of the input.
use mathlib.Core.Path.{◌≡◌, refl}
use mathlib.Core.List.{List, [], ◌∷◌}
use Prim.Native.Nat.{ℕ, ◌-◌, ◌≤◌, ◌<◌}
use native.Mathlib.Omega.{arith}
use borrow.Author.Rules.{part_to_end}
use borrow.Author.Tests.{lt-ltb, le-ltb}
use lib.ListN.{length, get_or, take, drop}
use Rattle.refusal.specs.Numbers.{truncated, input_too_long}
use Rattle.console.specs.Line.{line}
use Rattle.console.specs.Turn.{fresh}
use Rattle.console.specs.Transcript.{input_limit, session, transcript_of}

pub too_long : (input : List ℕ) → input_limit < length input → transcript_of input ≡ line input_too_long []
unfolding transcript_of
too_long input h = rw (lt-ltb _ _ h)

pub no_party : (input : List ℕ) → length input < 1 → transcript_of input ≡ line truncated []
unfolding transcript_of
no_party [] e = refl
no_party (party ∷ bytes) e = absurd (omega arith)

pub requests : (input : List ℕ) → length input ≤ input_limit → 1 ≤ length input
    → transcript_of input ≡ session fresh (get_or input 0 0) (take (length input - 1) (drop 1 input))
unfolding transcript_of
requests [] h some = absurd (omega arith)
requests (party ∷ bytes) h some = rw (part_to_end (party ∷ bytes) 1, le-ltb _ _ h)
