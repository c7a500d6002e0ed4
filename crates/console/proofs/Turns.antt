-- One request as the code answers it.
use mathlib.Core.Path.{◌≡◌, sym, ap, ◌∙◌}
use mathlib.Core.Bool.{true, false}
use mathlib.Core.List.{List, []}
use Prim.Native.Nat.{ℕ, ◌≤◌, ◌<◌}
use native.Mathlib.Omega.{arith}
use borrow.Author.Tests.{eqb-true}
use lib.ListN.{length, take, replicate}
use lib.Seq.{take_at}
use Rattle.cases.proofs.Cases.{split}
use Rattle.refusal.specs.First.{accepted}
use Rattle.request.specs.Answers.{Parsed}
use Rattle.request.specs.declared.Request.{Request}
use Rattle.request.specs.Requests.{fewest_numbers}
use Rattle.request.specs.Reading.{parsed}
use Rattle.request.proofs.Reading.{few_values}
use Rattle.request.proofs.RoundTrip.{round_trip}
use Rattle.ads1299.specs.declared.Converter.{Converter}
use Rattle.planner.specs.Answers.{Planned}
use Rattle.planner.specs.Submission.{Submission}
use Rattle.planner.specs.Plan.{plan_of, plan_length, longest_plan}
use Rattle.planner.specs.Planned.{refusal_of, plan, planned}
use Rattle.planner.specs.Buffer.{tx_after}
use Rattle.planner.proofs.Length.{plan_length_lem, plans_fit}
use Rattle.planner.proofs.Placement.{placement}
use Rattle.console.specs.Line.{line}
use Rattle.console.specs.Turn.{is_read, asked, answered, printed, next_state, consumed, turn}

-- what lies at the buffer's start is the plan
shown : (s : Converter) (x : Submission) (tx : List ℕ) → take (planned s x).length (tx_after s x tx 0) ≡ plan s x
unfolding planned tx_after plan
shown s x tx = split (accepted (refusal_of s x)) (λ a. rw a (take_at (plan_of s x.request) _ (plan_length s x.request) (plan_length_lem s x.request))) (λ a. rw a)

short : (s : Converter) (x : Submission) → (planned s x).length ≤ longest_plan
unfolding planned
short s x = split (accepted (refusal_of s x)) (λ a. rw a (plans_fit s x.request)) (λ a. rw a (omega arith))

-- a request that is planned into an empty buffer
module _ (s : Converter) (party : ℕ) (r : Request) (t : Planned) (tx : List ℕ) (et : t ≡ planned s (asked party r)) (ex : tx ≡ tx_after s (asked party r) (replicate longest_plan 0) 0) where
  pub plan_within : t.length ≤ length tx
  plan_within = rw (et, ex) (omega (arith, short s (asked party r), (placement s party r (replicate longest_plan 0) 0).size))

  pub plan_line : answered s (asked party r) ≡ line t.refusal (take t.length tx)
  plan_line = rw (et, ex, shown s (asked party r) (replicate longest_plan 0))

module _ (s : Converter) (party : ℕ) (bytes : List ℕ) (p : Parsed) (e : p ≡ parsed bytes) where
  is_judged : accepted p.refusal ≡ is_read bytes
  is_judged = ap (λ (x : Parsed). accepted x.refusal) e

  -- the bytes are not read
  module _ (no : accepted p.refusal ≡ false) where
    pub refused_line : printed s party bytes ≡ line p.refusal []
    unfolding printed
    refused_line = rw (sym is_judged ∙ no, e)

    pub refused_turn : record { used = length bytes; next = s } ≡ turn s party bytes
    unfolding turn next_state consumed
    refused_turn = rw (sym is_judged ∙ no)

  -- a request is read
  module _ (yes : accepted p.refusal ≡ true) where
    pub answered_line : printed s party bytes ≡ answered s (asked party p.request)
    unfolding printed
    answered_line = rw (sym is_judged ∙ yes, e)

    pub answered_turn : (next : Converter) → next ≡ (planned s (asked party p.request)).next → record { used = p.used; next = next } ≡ turn s party bytes
    unfolding turn next_state consumed
    answered_turn next n = rw (sym is_judged ∙ yes, n, e)

module _ (bytes : List ℕ) (h : 0 < length bytes) where
  -- a request has at least a byte for each of the fewest numbers
  pub fewest_each : is_read bytes ≡ true → fewest_numbers ≤ consumed bytes
  unfolding consumed
  fewest_each a = rw a (omega (arith, (few_values (parsed bytes).request.field).0, (round_trip.counted bytes).least (eqb-true _ _ a)))

  pub some_consumed : 0 < consumed bytes
  unfolding consumed
  some_consumed = split (is_read bytes) (λ a. let l = fewest_each a in omega arith) (λ a. rw a h)

  pub consumed_within : consumed bytes ≤ length bytes
  unfolding consumed
  consumed_within = split (is_read bytes) (λ a. rw a (round_trip.counted bytes).within) (λ a. rw a (omega arith))
