-- From the test of a party to its bound.
use Prim.Native.Nat.{ℕ, ◌≤◌}
use mathlib.Core.Path.{◌≡◌}
use mathlib.Core.Bool.{true}
use borrow.Author.Tests.{leb-true}
use Rattle.parties.specs.Parties.{largest_party, known_party}

pub party_bound : (party : ℕ) → known_party party ≡ true → party ≤ largest_party
unfolding known_party
party_bound party e = leb-true _ _ e
