-- Known owners: each entry is a party, and stays one where a party is entered.
use Prim.Native.Nat.{ℕ, zero, suc}
use mathlib.Core.Path.{◌≡◌, refl, ap}
use mathlib.Core.Bool.{true, ◌&&◌}
use mathlib.Core.List.{List, [], ◌∷◌}
use lib.Dec.{leb}
use lib.ListN.{get_or, set}
use Rattle.std.specs.List.{list_all}
use Rattle.cases.proofs.Cases.{and_both}
use Rattle.parties.specs.Parties.{largest_party}
use Rattle.parties.specs.Owners.{known_owners}

pub known_at : (owners : List ℕ) (i : ℕ) → known_owners owners ≡ true → leb (get_or owners i 0) largest_party ≡ true
known_at [] i k = refl
known_at (x ∷ xs) zero k = (and_both (leb x largest_party) (known_owners xs) k).0
known_at (x ∷ xs) (suc i) k = known_at xs i (and_both (leb x largest_party) (known_owners xs) k).1

pub set_known : (owners : List ℕ) (i receiver : ℕ) → known_owners owners ≡ true → leb receiver largest_party ≡ true → known_owners (set owners i receiver) ≡ true
set_known [] i receiver k r = refl
set_known (x ∷ xs) zero receiver k r = rw r (and_both (leb x largest_party) (known_owners xs) k).1
set_known (x ∷ xs) (suc i) receiver k r =
    let b = and_both (leb x largest_party) (known_owners xs) k in
    rw b.0 (set_known xs i receiver b.1 r)

-- the definition goes entry by entry, the code asks std's test of all
pub known_all : (owners : List ℕ) → list_all (λ o. leb o largest_party) owners ≡ known_owners owners
known_all [] = refl
known_all (x ∷ xs) = ap (λ b. leb x largest_party && b) (known_all xs)
