-- A grant: the administrator moves a channel to another owner (document 01, "The bench and its parties").
use Rattle.std.specs.Prelude.{ℕ, ◌-◌, Bool, cond, not, List, [], ◌∷◌, set}
use Rattle.refusal.specs.Numbers.{none, unknown_party, wrong_channel, not_owner, invalid_state}
use Rattle.refusal.specs.First.{first_of, accepted}
use Rattle.ads1299.specs.declared.Converter.{Converter}
use Rattle.ads1299.specs.Answers.{Moved}
use Rattle.ads1299.specs.State.{with_owners, moved}
use Rattle.ads1299.specs.Validity.{valid}
use Rattle.parties.specs.Parties.{known_party, is_admin}
use Rattle.ads1299_registers.specs.Channels.{is_channel}

-- the refusals of a grant, in the order in which they are tried
abbrev pub grant_refusals : Converter → ℕ → ℕ → ℕ → List (Bool × ℕ)
grant_refusals s caller receiver channel =
    (not (valid s), invalid_state)
    ∷ (not (known_party caller), unknown_party)
    ∷ (not (known_party receiver), unknown_party)
    ∷ (not (is_channel channel), wrong_channel)
    ∷ (not (is_admin caller), not_owner)
    ∷ []

-- gives the grant's refusal number, or 0
unfoldable pub grant_refusal : Converter → ℕ → ℕ → ℕ → ℕ
grant_refusal s caller receiver channel = first_of (grant_refusals s caller receiver channel)

-- gives the state with one owner entry changed, and nothing else
unfoldable pub reassigned : Converter → ℕ → ℕ → Converter
reassigned s channel receiver = with_owners s (set s.owners (channel - 1) receiver)

-- gives the answer to a grant: refused, the state is as it was given
unfoldable pub granted : Converter → ℕ → ℕ → ℕ → Moved
granted s caller receiver channel =
    cond (accepted (grant_refusal s caller receiver channel))
    (moved none (reassigned s channel receiver))
    (moved (grant_refusal s caller receiver channel) s)
