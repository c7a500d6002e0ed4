-- A plan in the transmit buffer, put there piece by piece.
use Rattle.std.specs.Prelude.{Ok, Err}
use Prim.Native.Nat.{ℕ, ◌+◌, ◌-◌, ◌≤◌}
use mathlib.Core.Path.{◌≡◌, ◌∙◌}
use mathlib.Core.Bool.{true, false}
use mathlib.Core.List.{List, ◌++◌}
use native.Mathlib.Omega.{arith}
use borrow.Author.Tests.{eq-eqb}
use borrow.Rule.Slice.PartMut.{put_mid}
use lib.ListN.{length, take, drop, length-append, length-drop}
use lib.Seq.{take_all}
use Rattle.splice.specs.Splice.{spliced}
use Rattle.splice.proofs.Splice.{room_after, laid_after, part_spliced}
use Rattle.refusal.specs.Numbers.{none}
use Rattle.refusal.specs.First.{accepted}
use Rattle.refusal.specs.declared.Refusal.{Refusal}
use Rattle.refusal.specs.Refusals.{number_of}
use Rattle.refusal.proofs.Laws.{refused_lem}
use Rattle.ads1299.specs.declared.Converter.{Converter}
use Rattle.planner.specs.Answers.{plan_answer}
use Rattle.planner.specs.Submission.{Submission, room_at}
use Rattle.planner.specs.Plan.{plan_writing, plan_of, plan_length}
use Rattle.planner.specs.Planned.{refusal_of, changed, planned}
use Rattle.planner.specs.Buffer.{tx_after}
use Rattle.planner.specs.declared.Writer.{Writer}
use Rattle.planner.specs.Wrote.{Wrote}
use Rattle.planner.proofs.Accepted.{Passed, passed}
use Rattle.planner.proofs.Length.{few_runs, plan_length_lem}

module _ {before middle : Writer} {first : List ℕ} (p : Wrote before middle first) where
  -- room that the buffer has beyond the bytes is left after them
  pub room_left : (more : ℕ) → before.place + (length first + more) ≤ length before.buffer.now → middle.place + more ≤ length middle.buffer.now
  room_left = room_after before.buffer.now before.place first p.place p.buffer

  -- bytes written after bytes
  pub both : {after : Writer} {second : List ℕ} → Wrote middle after second → before.place + (length first + length second) ≤ length before.buffer.now
      → Wrote before after (first ++ second)
  both {after} {second} q h =
      record {
        same = q.same ∙ p.same;
        place = q.place ∙ omega (arith, p.place, length-append first second);
        buffer = laid_after before.buffer.now before.place first p.place p.buffer second q.buffer h;
      }

module _ (s : Converter) (x : Submission) (tx : List ℕ) (at : ℕ) where
  pub refused : (r : Refusal) → number_of r ≡ refusal_of s x → (plan_answer s (Err r) ≡ planned s x) × (tx ≡ tx_after s x tx at)
  unfolding planned tx_after
  refused r e =
      let f : accepted (refusal_of s x) ≡ false = rw e at (refused_lem r) in
      (rw (f, e), rw f)

  module _ (in_tx : x.room ≡ room_at tx at) (z : refusal_of s x ≡ none) where
    pub has_passed : Passed s x
    has_passed = passed s x (eq-eqb _ _ z)

    -- the plan lies within the buffer
    pub within : at + plan_length s x.request ≤ length tx
    within = omega (arith, has_passed.room, (few_runs x.request).0)

    pub start_within : at ≤ length tx
    start_within = let h = within in omega arith

    -- the part that the writer is lent, from the place on, has room for the plan, also as counted from the state after it
    pub in_part : (t : Converter) → t ≡ changed s x.request → plan_length t x.request ≤ length (take (length tx - at) (drop at tx))
    unfolding changed
    in_part t et =
        let l = length-drop at tx in
        let h = within in
        rw (et, take_all (length tx - at) (drop at tx) (omega arith)) (omega arith)

    pub planned_in : (n : ℕ) (t : Converter) (part : List ℕ) → n ≡ plan_length s x.request → t ≡ changed s x.request
        → part ≡ spliced (take (length tx - at) (drop at tx)) 0 (plan_writing t x.request t.registers)
        → (plan_answer s (Ok (record { length = n; next = t })) ≡ planned s x) × (put_mid at (length tx - at) tx part ≡ tx_after s x tx at)
    unfolding planned tx_after plan_of plan_writing changed
    planned_in n t part en et ep =
        let f : accepted (refusal_of s x) ≡ true = eq-eqb _ _ z in (
          rw f (λ i. record { refusal = none; length = en i; next = et i }),
          rw f (part_spliced at tx (plan_of s x.request) part (omega (arith, within, plan_length_lem s x.request)) (ep ∙ rw et)),
        )
