-- An answer's number is its refusal, and what an accepted grant has.
use Prim.Native.Nat.{ℕ}
use mathlib.Core.Path.{◌≡◌, refl, sym}
use mathlib.Core.Bool.{true}
use borrow.Author.Tests.{eqb-true, not-false}
use Rattle.cases.proofs.Cases.{split}
use Rattle.refusal.specs.Numbers.{none}
use Rattle.refusal.specs.First.{accepted}
use Rattle.refusal.proofs.First.{exact}
use Rattle.ads1299.specs.declared.Converter.{Converter}
use Rattle.ads1299.specs.Validity.{valid}
use Rattle.parties.specs.Parties.{known_party, is_admin}
use Rattle.ads1299_registers.specs.Channels.{is_channel}
use Rattle.grants.specs.Grant.{grant_refusals, grant_refusal, granted}

pub grant_number : (s : Converter) (caller receiver channel : ℕ) → (granted s caller receiver channel).refusal ≡ grant_refusal s caller receiver channel
unfolding granted
grant_number s caller receiver channel =
    split (accepted (grant_refusal s caller receiver channel)) (λ e. rw e (sym (eqb-true _ _ e))) (λ e. rw e)

pub record Grantable (s : Converter) (caller receiver channel : ℕ) : Type 0 where
  pub state : valid s ≡ true
  pub caller_known : known_party caller ≡ true
  pub receiver_known : known_party receiver ≡ true
  pub channel_known : is_channel channel ≡ true
  pub by_admin : is_admin caller ≡ true

pub grantable : (s : Converter) (caller receiver channel : ℕ) → grant_refusal s caller receiver channel ≡ none → Grantable s caller receiver channel
unfolding grant_refusal
grantable s caller receiver channel e =
    let off = (exact (grant_refusals s caller receiver channel) refl).refuses e in
    record {
      state = not-false _ off.0;
      caller_known = not-false _ off.1.0;
      receiver_known = not-false _ off.1.1.0;
      channel_known = not-false _ off.1.1.1.0;
      by_admin = not-false _ off.1.1.1.1.0;
    }
