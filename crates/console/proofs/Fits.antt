-- The longest transcript.
use mathlib.Core.List.{List, [], ◌∷◌}
use Prim.Native.Nat.{ℕ, zero, suc, ◌*◌, ◌≤◌, ◌<◌}
use native.Mathlib.Omega.{arith}
use borrow.Author.Tests.{eqb-false, ltb-false}
use lib.Dec.{eqb, ltb}
use lib.ListN.{length, drop, length-append, length-drop}
use Rattle.cases.proofs.Cases.{split}
use Rattle.refusal.specs.First.{accepted}
use Rattle.refusal.specs.Numbers.{truncated, input_too_long}
use Rattle.request.specs.Requests.{fewest_numbers}
use Rattle.request.specs.Reading.{parsed}
use Rattle.ads1299.specs.declared.Converter.{Converter}
use Rattle.planner.specs.Submission.{Submission}
use Rattle.planner.specs.Plan.{plan_of}
use Rattle.planner.specs.Planned.{refusal_of, plan, planned}
use Rattle.planner.proofs.Length.{plan_length_lem, plans_fit}
use Rattle.console.specs.Line.{longest_line}
use Rattle.console.specs.Turn.{fresh, is_read, submitted, answered, printed, next_state, consumed}
use Rattle.console.specs.Transcript.{input_limit, longest_transcript, lines, session, run, transcript_of}
use Rattle.console.specs.Claims.{AlwaysFits}
use Rattle.console.proofs.Lines.{short_line, plan_line}
use Rattle.console.proofs.Turns.{fewest_each, some_consumed, consumed_within}

answered_fits : (s : Converter) (x : Submission) → length (answered s x) ≤ longest_line
unfolding planned plan
answered_fits s x =
    split (accepted (refusal_of s x))
    (λ a. rw a (omega (arith, plan_line (plan_of s x.request), plan_length_lem s x.request, plans_fit s x.request)))
    (λ a. rw a (omega (arith, short_line (refusal_of s x))))

-- a line is no longer than its share of the bytes
printed_fits : (s : Converter) (party : ℕ) (bytes : List ℕ) → 0 < length bytes → fewest_numbers * length (printed s party bytes) ≤ longest_line * consumed bytes
unfolding printed
printed_fits s party bytes h =
    split (is_read bytes)
    (λ a. let u = fewest_each bytes h a in rw a (omega (arith, answered_fits s (submitted party bytes))))
    (λ a. let u = some_consumed bytes h in rw a (omega (arith, short_line (parsed bytes).refusal)))

lines_fit : (most : ℕ) (s : Converter) (party : ℕ) (bytes : List ℕ) → fewest_numbers * length (lines most s party bytes) ≤ longest_line * length bytes
unfolding lines
lines_fit zero s party bytes = omega arith
lines_fit (suc most) s party bytes =
    split (eqb (length bytes) 0)
    (λ a. rw a (omega arith))
    (λ a.
    let some : 0 < length bytes = omega (arith, eqb-false (length bytes) 0 a) in
    let next = lines most (next_state s party bytes) party (drop (consumed bytes) bytes) in
    let l = length-append (printed s party bytes) next in
    let r = lines_fit most (next_state s party bytes) party (drop (consumed bytes) bytes) in
    let d = length-drop (consumed bytes) bytes in
    rw a (omega (arith, printed_fits s party bytes some, consumed_within bytes some)))

run_fits : (input : List ℕ) → length input ≤ input_limit → length (run input) ≤ longest_transcript
unfolding session
run_fits [] h = omega (arith, short_line truncated)
run_fits (party ∷ bytes) h = omega (arith, lines_fit (length bytes) fresh party bytes)

pub always_fits : AlwaysFits
unfolding transcript_of
always_fits input =
    split (ltb input_limit (length input))
    (λ a. rw a (omega (arith, short_line input_too_long)))
    (λ a. rw a (run_fits input (ltb-false _ _ a)))
