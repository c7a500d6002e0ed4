-- Parties by number (document 01, "The bench and its parties").
use Rattle.std.specs.Prelude.{ℕ, Bool, leb, eqb}

-- the administrator's number (document 01: the keeper)
abbrev pub admin : ℕ
admin = 0

-- the largest number of a party; the administrator's and the tenants' (document 01: workshops) are all up to it
abbrev pub largest_party : ℕ
largest_party = 8

-- tells whether there is a party of this number
unfoldable pub known_party : ℕ → Bool
known_party party = leb party largest_party

-- tells whether a party is the administrator
unfoldable pub is_admin : ℕ → Bool
is_admin party = eqb party admin
