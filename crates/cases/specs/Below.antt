-- A test at every number below a bound: the rule of a table is one such test, computed.
use Rattle.std.specs.Prelude.{Bool, true, ◌&&◌, ℕ, zero, suc}

-- the test passes at every number below k
abbrev pub below : ℕ → (ℕ → Bool) → Bool
below zero test = true
below (suc k) test = test k && below k test
