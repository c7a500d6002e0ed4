-- What is claimed of grants beyond the functions' contracts.
use Rattle.std.specs.Prelude.{ℕ, ◌≡◌, true, cond, eqb, length}
use Rattle.refusal.specs.Numbers.{none}
use Rattle.ads1299_registers.specs.Addresses.{channel_count}
use Rattle.ads1299.specs.declared.Converter.{Converter}
use Rattle.ads1299.specs.Answers.{Moved}
use Rattle.ads1299.specs.State.{with_owners}
use Rattle.ads1299.specs.Validity.{valid}
use Rattle.parties.specs.Owners.{owner_of}
use Rattle.ads1299_registers.specs.Channels.{is_channel}
use Rattle.grants.specs.Grant.{granted}

-- From a state that passes 13, every grant leads to one that passes it.
abbrev pub GrantKeepsValid : Type 0
GrantKeepsValid =
    (s : Converter) (caller receiver channel : ℕ)
    → valid s ≡ true
    → valid (granted s caller receiver channel).next ≡ true

-- accepted, the channel is the receiver's and every other one has the owner that it had; refused, the state is as given; all but the owners stays in any case
pub record OneOwnerMoves (s : Converter) (receiver channel : ℕ) (answer : Moved) : Type 0 where
  pub moved : answer.refusal ≡ none → (other : ℕ) → is_channel other ≡ true
      → owner_of answer.next.owners other ≡ cond (eqb other channel) receiver (owner_of s.owners other)
  pub kept : (answer.refusal ≡ none → ⊥) → answer.next ≡ s
  pub rest : answer.next ≡ with_owners s answer.next.owners

-- A grant changes one owner entry and nothing else.
abbrev pub GrantMovesOneOwner : Type 0
GrantMovesOneOwner =
    (s : Converter) (caller receiver channel : ℕ)
    → length s.owners ≡ channel_count
    → OneOwnerMoves s receiver channel (granted s caller receiver channel)
