-- What an accepted list has passed, and its plan in the transmit buffer.
use Prim.Native.Nat.{ℕ, ◌+◌, ◌≤◌}
use mathlib.Core.Bool.{true, false}
use mathlib.Core.List.{List}
use mathlib.Core.Path.{◌≡◌, refl}
use native.Mathlib.Omega.{arith}
use borrow.Author.Tests.{eq-eqb, ltb-false, not-false}
use borrow.Rule.Slice.PartMut.{put_mid}
use lib.ListN.{length}
use Rattle.splice.specs.Splice.{room_at}
use Rattle.splice.proofs.Splice.{copied_to}
use Rattle.refusal.specs.Numbers.{none}
use Rattle.refusal.specs.First.{accepted}
use Rattle.refusal.proofs.First.{exact}
use Rattle.ads7953.specs.declared.Ads7953.{Ads7953}
use Rattle.ads7953.specs.Frame.{valid}
use Rattle.ads7953_list.specs.Planned.{list_plan, list_plan_length, list_refusals, list_refusal, list_tx_after}

pub record Passed (s : Ads7953) (room : ℕ) : Type 0 where
  pub passed : valid s ≡ true
  pub idle : s.programming ≡ false
  pub roomy : list_plan_length ≤ room

pub passed : (s : Ads7953) (party list room : ℕ) → list_refusal s party list room ≡ none → Passed s room
unfolding list_refusal
passed s party list room e =
    let off = (exact (list_refusals s party list room) refl).refuses e in
    record { passed = not-false (valid s) off.0; idle = off.1.1.1.1.0; roomy = ltb-false room list_plan_length off.1.1.1.1.1.0 }

module _ (s : Ads7953) (party list : ℕ) (tx : List ℕ) (at : ℕ) (z : list_refusal s party list (room_at tx at) ≡ none) where
  -- the plan lies within the buffer
  pub within : at + list_plan_length ≤ length tx
  within = let r = (passed s party list (room_at tx at) z).roomy in omega arith

  pub planned_at : put_mid at list_plan_length tx (list_plan list) ≡ list_tx_after s party list tx at
  unfolding list_tx_after
  planned_at = let f : accepted (list_refusal s party list (room_at tx at)) ≡ true = eq-eqb _ _ z in rw f (copied_to at list_plan_length tx (list_plan list) refl)
