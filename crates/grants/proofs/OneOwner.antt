-- A grant moves one owner entry and keeps the state valid.
use Prim.Native.Nat.{ℕ, ◌-◌}
use mathlib.Core.Path.{◌≡◌, refl, sym, ◌∙◌}
use mathlib.Core.Bool.{true, cond}
use native.Mathlib.Omega.{arith}
use borrow.Author.Tests.{eqb-true, eqb-false, eq-eqb, ne_eqb}
use lib.Dec.{eqb}
use lib.ListN.{length}
use lib.Seq.{get_or-set_same, get_or-set_other}
use Rattle.cases.proofs.Cases.{split, either}
use Rattle.refusal.specs.Numbers.{none}
use Rattle.refusal.specs.First.{accepted}
use Rattle.ads1299_registers.specs.Addresses.{channel_count}
use Rattle.ads1299.specs.declared.Converter.{Converter}
use Rattle.ads1299.specs.Answers.{Moved}
use Rattle.ads1299.specs.State.{with_owners, moved}
use Rattle.ads1299.specs.Validity.{valid}
use Rattle.ads1299.proofs.ValidState.{parts, whole}
use Rattle.parties.specs.Parties.{known_party}
use Rattle.parties.specs.Owners.{owner_of}
use Rattle.ads1299_registers.specs.Channels.{is_channel}
use Rattle.grants.specs.Grant.{grant_refusal, reassigned, granted}
use Rattle.grants.specs.Claims.{GrantKeepsValid, GrantMovesOneOwner}
use Rattle.ads1299_registers.proofs.Bounds.{bounds}
use Rattle.parties.proofs.Owners.{set_known}
use Rattle.grants.proofs.Accepted.{grant_number, grantable}

reassigned_valid : (s : Converter) (channel receiver : ℕ) → valid s ≡ true → known_party receiver ≡ true → valid (reassigned s channel receiver) ≡ true
unfolding reassigned known_party
reassigned_valid s channel receiver v r =
    let p = parts s v in
    whole _ (record { id = p.id; place = p.place; phase = p.phase; owners = set_known s.owners (channel - 1) receiver p.owners r })

pub grant_keeps_valid : GrantKeepsValid
unfolding granted
grant_keeps_valid s caller receiver channel v =
    either (λ (m : Moved). valid m.next ≡ true) (accepted (grant_refusal s caller receiver channel))
    (λ e. reassigned_valid s channel receiver v (grantable s caller receiver channel (eqb-true _ _ e)).receiver_known) (λ e. v)

module _ (s : Converter) (caller receiver channel : ℕ) where
  pub accepted_is : (granted s caller receiver channel).refusal ≡ none → granted s caller receiver channel ≡ moved none (reassigned s channel receiver)
  unfolding granted
  accepted_is e = rw (eq-eqb _ _ (sym (grant_number s caller receiver channel) ∙ e))

  pub refused_is : ((granted s caller receiver channel).refusal ≡ none → ⊥) → (granted s caller receiver channel).next ≡ s
  unfolding granted
  refused_is e = rw (ne_eqb _ _ (λ z. e (grant_number s caller receiver channel ∙ z)))

reassigned_owner : (s : Converter) (channel receiver other : ℕ) → length s.owners ≡ channel_count → is_channel channel ≡ true → is_channel other ≡ true
    → owner_of (reassigned s channel receiver).owners other ≡ cond (eqb other channel) receiver (owner_of s.owners other)
unfolding reassigned owner_of
reassigned_owner s channel receiver other l c o =
    let b = bounds channel c in
    let d = bounds other o in
    split (eqb other channel)
    (λ e. rw (e, eqb-true other channel e) (get_or-set_same s.owners (channel - 1) receiver 0 (omega arith)))
    (λ e. rw e (get_or-set_other s.owners (channel - 1) (other - 1) receiver 0 (λ z. eqb-false other channel e (omega arith))))

pub grant_moves_one_owner : GrantMovesOneOwner
unfolding granted reassigned
grant_moves_one_owner s caller receiver channel l = record {
  moved = λ e other o. rw (accepted_is s caller receiver channel e) (reassigned_owner s channel receiver other l (grantable s caller receiver channel (sym (grant_number s caller receiver channel) ∙ e)).channel_known o);
  kept = refused_is s caller receiver channel;
  rest = either (λ (m : Moved). m.next ≡ with_owners s m.next.owners) (accepted (grant_refusal s caller receiver channel)) (λ e. refl) (λ e. refl);
}
