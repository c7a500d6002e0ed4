-- What a word is: a list, or what it asks for.
use Prim.Native.Nat.{ℕ}
use mathlib.Core.Bool.{true, false}
use mathlib.Core.Path.{◌≡◌}
use Rattle.bits.specs.Fields.{field}
use Rattle.ads7953.specs.declared.Ads7953.{Ads7953}
use Rattle.ads7953.specs.State.{with_list, with_programming}
use Rattle.ads7953.specs.Words.{decoded}
use Rattle.ads7953.specs.Latch.{advanced, commanded, latched}

pub as_command : (s : Ads7953) (w : ℕ) → s.programming ≡ false → latched s w ≡ commanded (decoded w) s w
unfolding latched
as_command s w p = rw p

-- while auto-1 is being programmed a word is the list
pub as_list : (s : Ads7953) (w : ℕ) → s.programming ≡ true → latched s w ≡ advanced (with_programming (with_list s w) false)
unfolding latched
as_list s w p = rw p

-- 8000h enters the programming of auto-1
pub programming_entered : (s : Ads7953) → s.programming ≡ false → latched s 0x8000 ≡ advanced (with_programming s true)
unfolding decoded field commanded
programming_entered s p = as_command s 0x8000 p

-- 0000h lets the mode go on
pub zero_advances : (s : Ads7953) → s.programming ≡ false → latched s 0 ≡ advanced s
unfolding decoded field commanded
zero_advances s p = as_command s 0 p
