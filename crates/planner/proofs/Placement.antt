-- Where a plan lies in the transmit buffer.
use Prim.Native.Nat.{ℕ, ◌+◌}
use mathlib.Core.Path.{subst, ◌≡◌, refl}
use mathlib.Core.List.{List}
use mathlib.Core.Bool.{true}
use borrow.Author.Tests.{eqb-true}
use lib.ListN.{take, drop}
use Rattle.cases.proofs.Cases.{split}
use Rattle.refusal.specs.First.{accepted}
use Rattle.splice.specs.Splice.{spliced}
use Rattle.splice.specs.Laws.{Laid}
use Rattle.splice.proofs.Splice.{fitting_laid}
use Rattle.planner.specs.Submission.{submission}
use Rattle.planner.specs.Plan.{plan_of}
use Rattle.planner.specs.Planned.{refusal_of, plan}
use Rattle.planner.specs.Buffer.{tx_after}
use Rattle.planner.specs.Placement.{Placement}
use Rattle.planner.proofs.Accepted.{accepted_is, refused_is}
use Rattle.planner.proofs.Length.{plan_length_lem}
use Rattle.planner.proofs.Buffer.{within}

pub placement : Placement
unfolding tx_after plan
placement s party r tx at =
    let x = submission party r tx at in
    let laid : accepted (refusal_of s x) ≡ true → Laid tx at (plan_of s r) = λ a. fitting_laid tx at (plan_of s r) (rw (plan_length_lem s r) (within s x tx at refl (eqb-true _ _ a))) in
    record {
      size = split (accepted (refusal_of s x)) (λ a. rw a (laid a).size) (λ a. rw a);
      accepted = λ z.
          let a = accepted_is s x z in
          let after : List ℕ = spliced tx at (plan_of s r) in
          record {
            bytes = rw a (subst (λ (n : ℕ). take n (drop at after) ≡ plan_of s r) (plan_length_lem s r) (laid a).found);
            before = rw a (laid a).before;
            after = rw a (subst (λ (n : ℕ). drop (at + n) after ≡ drop (at + n) tx) (plan_length_lem s r) (laid a).after);
          };
      refused = λ z. rw (refused_is s x z);
    }
