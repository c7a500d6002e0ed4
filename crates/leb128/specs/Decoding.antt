-- The number that bytes start with, read from left to right; the first fault is the answer.
use Rattle.std.specs.Prelude.{cond, List, [], ◌∷◌, ℕ, zero, suc, ◌+◌, ◌-◌, ◌*◌, ltb, eqb}
use Rattle.refusal.specs.Numbers.{truncated, malformed}
use Rattle.refusal.specs.First.{accepted}
use Rattle.leb128.specs.Answers.{Number}
use Rattle.leb128.specs.Numbers.{base, found, refused}

-- gives a low group joined with the number of the groups after it, which must not be 0: the low group alone would be shorter
abbrev pub joined : ℕ → Number → Number
joined low rest =
    cond (accepted rest.refusal)
    (cond (eqb rest.value 0) (refused malformed) (found (low + base * rest.value) (rest.used + 1)))
    rest

-- gives the number that the bytes start with: a group that is missing is truncated, one past the k-th malformed; bytes after it are not looked at
unfoldable pub decoded : ℕ → List ℕ → Number
decoded zero bytes = refused malformed
decoded (suc k) [] = refused truncated
decoded (suc k) (byte ∷ bytes) = cond (ltb byte base) (found byte 1) (joined (byte - base) (decoded k bytes))
