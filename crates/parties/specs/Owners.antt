-- The channels' owners: an entry for each channel, in the order of the channels (document 01, "The bench and its parties").
use Rattle.std.specs.Prelude.{ℕ, ◌-◌, Bool, true, ◌&&◌, List, [], ◌∷◌, leb, eqb, get_or}
use Rattle.parties.specs.Parties.{admin, largest_party}

-- every owner is a party
abbrev pub known_owners : List ℕ → Bool
known_owners [] = true
known_owners (owner ∷ owners) = leb owner largest_party && known_owners owners

-- gives the owner of a channel; channel 0 counts as 1, and a channel with no entry as the administrator's
unfoldable pub owner_of : List ℕ → ℕ → ℕ
owner_of owners channel = get_or owners (channel - 1) admin

-- tells whether a party owns a channel; the administrator too owns only what is entered as its own
unfoldable pub owns : List ℕ → ℕ → ℕ → Bool
owns owners party channel = eqb party (owner_of owners channel)
