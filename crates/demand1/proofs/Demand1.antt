-- Demand 1: every answer is chosen by its refusal number, so each entry is one lemma about such a choice.
use Prim.Native.Nat.{ℕ, zero, suc, ◌≤◌, ◌<◌}
use mathlib.Core.Path.{◌≡◌, refl, sym, ap, ◌∙◌}
use native.Mathlib.Omega.{arith}
use mathlib.Core.Bool.{Bool, true, false, cond, not, false≢true}
use mathlib.Core.List.{List, [], ◌∷◌, ◌++◌, append-nil}
use borrow.Author.Tests.{eqb-true, eqb-false, ne_eqb}
use lib.Dec.{eqb, ltb}
use lib.ListN.{length, drop, length-drop}
use Rattle.cases.proofs.Cases.{split, either}
use Rattle.refusal.specs.Numbers.{none, malformed, invalid_state}
use Rattle.refusal.specs.First.{first_of, accepted, Exact}
use Rattle.refusal.proofs.First.{exact}
use Rattle.leb128.specs.Numbers.{base, groups}
use Rattle.leb128.specs.Decoding.{decoded}
use Rattle.leb128.specs.Series.{series}
use Rattle.request.specs.Answers.{Parsed}
use Rattle.request.specs.Reading.{numbers_in, numbers_read, read_refusals, read_refusal, refused, parsed}
use Rattle.request.specs.Writing.{write_refusals, write_refusal, written, buffer_after}
use Rattle.ads1299.specs.declared.Converter.{Converter}
use Rattle.ads1299.specs.PowerUp.{valid_id, powered_up}
use Rattle.ads1299.specs.Validity.{valid}
use Rattle.ads1299.specs.Step.{stepped}
use Rattle.ads1299.specs.Deselect.{deselected}
use Rattle.ads1299.specs.Sample.{sample_refusals, sample_refusal, sampled}
use Rattle.grants.specs.Grant.{grant_refusals, grant_refusal, granted}
use Rattle.readings.specs.Reading.{reading_refusals, reading_refusal, channel_reading, part_bytes}
use Rattle.ads1299_settings.specs.Registers.{field_of}
use Rattle.planner.specs.Answers.{Planned}
use Rattle.planner.specs.Submission.{Submission}
use Rattle.planner.specs.Refusals.{refusals, judged}
use Rattle.planner.specs.Planned.{plan, planned}
use Rattle.planner.specs.Planned as planning
use Rattle.planner.specs.Buffer.{tx_after}
use Rattle.planner.proofs.Accepted.{number_is}
use Rattle.console.specs.Line.{line}
use Rattle.console.specs.Turn.{fresh, is_read, submitted, printed, next_state, consumed}
use Rattle.console.specs.Transcript.{input_limit, session, transcript_of}
use Rattle.console.proofs.Sessions.{one_by_one, no_more}
use Rattle.demand1.specs.Demand1.{Judges, input_refusals, Demand1}

-- an answer that is chosen by the first test that applies
module _ {A : Type 0} (tests : List (Bool × ℕ)) (number_of : A → ℕ) (good : A) (refused_by : ℕ → A) where
  pub chosen : Exact tests → number_of good ≡ none → ((n : ℕ) → number_of (refused_by n) ≡ n) → Judges tests number_of (cond (accepted (first_of tests)) good (refused_by (first_of tests))) refused_by
  chosen x g r =
      record {
        exact = x;
        number = split (accepted (first_of tests)) (λ e. rw e (g ∙ sym (eqb-true _ _ e))) (λ e. rw e (r (first_of tests)));
        kept = λ e. rw e;
      }

-- an answer that one test refuses
pub by_one : {A : Type 0} (test : Bool) (number_of : A → ℕ) (good : A) (refused_by : ℕ → A) → number_of good ≡ none → ((n : ℕ) → number_of (refused_by n) ≡ n)
    → Judges ((not test, invalid_state) ∷ []) number_of (cond test good (refused_by invalid_state)) refused_by
by_one true number_of good refused_by g r = record { exact = exact _ refl; number = g; kept = λ e. absurd (false≢true (sym e)) }
by_one false number_of good refused_by g r = record { exact = exact _ refl; number = r invalid_state; kept = λ e. refl }

-- numbers that are refused by their own refusals, as those of a series are
own_off : (n rest : ℕ) → cond (not (accepted n)) n rest ≡ none → (not (accepted n) ≡ false) × (rest ≡ none)
own_off n rest e = split (accepted n) (λ a. (rw a, rw a at e)) (λ a. absurd (eqb-false n none a (rw a at e)))

own_exact : (k count : ℕ) (bytes : List ℕ) → Exact (series k count bytes).refusals
unfolding series
own_exact k zero bytes = exact _ refl
own_exact k (suc count) bytes =
    let number = decoded k bytes in
    let rest = own_exact k count (drop number.used bytes) in
    record {
      accepts = λ n. rw n.0 (rest.accepts n.1);
      refuses = λ e. let x = own_off number.refusal _ e in (x.0, rest.refuses x.1);
    }

-- a refused answer, by its own number
pub kept_by : {A : Type 0} {tests : List (Bool × ℕ)} {number_of : A → ℕ} {answer : A} {refused_by : ℕ → A} → Judges tests number_of answer refused_by
    → accepted (number_of answer) ≡ false → answer ≡ refused_by (first_of tests)
kept_by j e = j.kept (ap accepted (sym j.number) ∙ e)

-- the reader of a number refuses by 1 or 2 alone
small_number : (k : ℕ) (bytes : List ℕ) → (decoded k bytes).refusal ≤ malformed
unfolding decoded
small_number zero bytes = omega arith
small_number (suc k) [] = omega arith
small_number (suc k) (b ∷ bytes) =
    split (ltb b base) (λ a. rw a (omega arith))
    (λ a. rw a
    (split (accepted (decoded k bytes).refusal)
    (λ r. split (eqb (decoded k bytes).value 0) (λ z. rw (r, z) (omega arith)) (λ z. rw (r, z) (omega arith)))
    (λ r. rw r (small_number k bytes))))

-- and so does that of a series
small_series : (k count : ℕ) (bytes : List ℕ) → first_of (series k count bytes).refusals ≤ malformed
unfolding series
small_series k zero bytes = omega arith
small_series k (suc count) bytes =
    either (λ (m : ℕ). m ≤ malformed) (not (accepted (decoded k bytes).refusal))
    (λ e. small_number k bytes)
    (λ e. small_series k count (drop (decoded k bytes).used bytes))

-- a request is read as a series, of as many numbers as its field says
small_reading : (bytes : List ℕ) → first_of (read_refusals bytes) ≤ malformed
unfolding numbers_read
small_reading bytes = small_series groups (numbers_in bytes) bytes

read_exact : (bytes : List ℕ) → Exact (read_refusals bytes)
unfolding numbers_read
read_exact bytes = own_exact groups (numbers_in bytes) bytes

read_judges : (bytes : List ℕ) → Judges (read_refusals bytes) (λ (a : Parsed). a.refusal) (parsed bytes) refused
unfolding read_refusal parsed
read_judges bytes = chosen (read_refusals bytes) _ _ _ (read_exact bytes) refl (λ m. refl)

plan_judges : (s : Converter) (x : Submission)
    → Judges (refusals s (field_of s.registers) x) (λ (a : Planned). a.refusal) (planned s x) (λ n. record { refusal = n; length = 0; next = s })
unfolding judged planning.refusal_of planned
plan_judges s x = chosen (refusals s (field_of s.registers) x) _ _ _ (exact _ refl) refl (λ m. refl)

no_plan : (s : Converter) (x : Submission) → accepted (planning.refusal_of s x) ≡ false → plan s x ≡ []
unfolding plan
no_plan s x f = rw f

same_state : (s : Converter) (x : Submission) → accepted (planning.refusal_of s x) ≡ false → (planned s x).next ≡ s
unfolding planned
same_state s x f = rw f

-- what the program prints
module _ (s : Converter) (party : ℕ) (bytes : List ℕ) (some : 0 < length bytes) where
  unread : accepted (first_of (read_refusals bytes)) ≡ false → session s party bytes ≡ line (first_of (read_refusals bytes)) []
  unfolding printed next_state consumed
  unread e =
      let n = (read_judges bytes).number in
      let f : is_read bytes ≡ false = ap accepted n ∙ e in
      one_by_one s party bytes some
      ∙ rw f (ap (λ (l : List ℕ). line (parsed bytes).refusal [] ++ l) (no_more s party (drop (length bytes) bytes) (omega (arith, length-drop (length bytes) bytes))) ∙ append-nil (line (parsed bytes).refusal []) ∙ ap (λ (m : ℕ). line m []) n)

  request_refused : is_read bytes ≡ true → accepted (planned s (submitted party bytes)).refusal ≡ false
      → session s party bytes ≡ line (planned s (submitted party bytes)).refusal [] ++ session s party (drop (parsed bytes).used bytes)
  unfolding printed next_state consumed
  request_refused r e =
      let x = submitted party bytes in
      let f : accepted (planning.refusal_of s x) ≡ false = ap accepted (sym (number_is s x)) ∙ e in
      one_by_one s party bytes some ∙ rw (r, no_plan s x f, same_state s x f)

-- a party byte is there
some_input : (party : ℕ) (bytes : List ℕ) → eqb (length (party ∷ bytes)) 0 ≡ false
some_input party bytes = ne_eqb (length (party ∷ bytes)) 0 (λ z. omega arith)

taken : (party : ℕ) (bytes : List ℕ) → accepted (first_of (input_refusals (party ∷ bytes))) ≡ true → transcript_of (party ∷ bytes) ≡ session fresh party bytes
unfolding transcript_of
taken party bytes e =
    split (ltb input_limit (length (party ∷ bytes))) (λ a. absurd (false≢true (rw a at e))) (λ a. rw a)

refused_input : (input : List ℕ) → accepted (first_of (input_refusals input)) ≡ false → transcript_of input ≡ line (first_of (input_refusals input)) []
unfolding transcript_of
refused_input [] e = refl
refused_input (party ∷ bytes) e =
    split (ltb input_limit (length (party ∷ bytes))) (λ a. rw a) (λ a. absurd (false≢true (sym (rw (a, some_input party bytes) at e))))

pub demand1 : Demand1
unfolding powered_up stepped deselected sample_refusal sampled grant_refusal granted reading_refusal channel_reading part_bytes write_refusal written buffer_after judged planning.refusal_of planned tx_after
demand1 =
    record {
      power_up = λ id. by_one (valid_id id) _ _ _ refl (λ n. refl);
      step = λ s b. by_one (valid s) _ _ _ refl (λ n. refl);
      deselect = λ s. by_one (valid s) _ _ _ refl (λ n. refl);
      sample = λ s codes p n. chosen (sample_refusals s codes) _ _ _ (exact _ refl) refl (λ m. refl);
      grant = λ s caller receiver channel. chosen (grant_refusals s caller receiver channel) _ _ _ (exact _ refl) refl (λ m. refl);
      read_channel = λ s party channel frame. chosen (reading_refusals s party channel frame) _ _ _ (exact _ refl) refl (λ m. refl);
      channel_bytes = λ s party channel frame e. rw e;
      read_request = read_judges;
      write_request = λ r buffer. chosen (write_refusals r (length buffer)) _ _ _ (exact _ refl) refl (λ m. refl);
      buffer_kept = λ r buffer e. rw e;
      plan = plan_judges;
      tx_kept = λ s x tx at e. rw e;
      program_input = λ input. exact _ refl;
      input_refused = refused_input;
      input_taken = taken;
      reader_numbers = small_reading;
      request_unread = unread;
      request_refused = request_refused;
    }
