-- Demand 1 on the bench: what refuses is the bench's own, or the converter's that is named, and demand 1 holds of that one.
use Prim.Native.Nat.{ℕ}
use mathlib.Core.Path.{◌≡◌, refl, sym, ◌∙◌, ap}
use mathlib.Core.Bool.{Bool, false}
use mathlib.Core.List.{List, []}
use borrow.Author.Tests.{ltb-true}
use lib.IntN.{ℤ, pos}
use Rattle.cases.proofs.Cases.{split}
use Rattle.refusal.specs.First.{first_of, accepted, Exact}
use Rattle.refusal.proofs.First.{exact}
use Rattle.ads1299_codes.specs.declared.Rail.TheVariants.{Neither}
use Rattle.ads1299.specs.declared.Converter.{Converter}
use Rattle.ads1299.specs.Answers.{Moved}
use Rattle.ads1299.specs.Sample.{sampled}
use Rattle.grants.specs.Grant.{granted}
use Rattle.readings.specs.Answers.{Reading}
use Rattle.readings.specs.Reading.{reading}
use Rattle.planner.specs.Answers.{Planned}
use Rattle.planner.specs.Submission.{Submission}
use Rattle.planner.specs.Planned.{planned}
use Rattle.demand1.specs.Demand1.{Judges}
use Rattle.demand1.proofs.Demand1.{demand1, chosen, by_one, kept_by}
use Rattle.lines.specs.Lines.{converter_count, is_converter, converter_of, local_channel, channel_on}
use Rattle.bench.specs.declared.Bench.{Bench}
use Rattle.bench.specs.Bench.{at, with_converter, valid_bench}
use Rattle.bench.specs.Formed.{FormedBench}
use Rattle.bench.specs.PowerUp.{valid_ids, bench_powered_up}
use Rattle.bench.specs.Line.{line_refusals, line_refusal, bench_sample_refusals, bench_moved, bench_stepped, bench_deselected, bench_sampled}
use Rattle.bench.proofs.Converters.{with_same, each_valid}
use Rattle.bench_grants.specs.Grant.{bench_granted}
use Rattle.bench_grants.proofs.Worded.{grants_as_worded}
use Rattle.bench_readings.specs.Reading.{bench_reading, bench_part_bytes, bench_reading_refusals}
use Rattle.bench_readings.proofs.Worded.{readings_as_worded, reading_is}
use Rattle.bench_planner.specs.Answers.{BenchPlanned}
use Rattle.bench_planner.specs.Local.{target, localised}
use Rattle.bench_planner.specs.Fields.{bench_field}
use Rattle.bench_planner.specs.Refusals.{bench_refusals}
use Rattle.bench_planner.specs.Planned.{bench_planned}
use Rattle.bench_planner.specs.Buffer.{bench_tx_after}
use Rattle.bench_planner.proofs.Worded.{refusals_as_worded}
use Rattle.bench_live.specs.Answers.{answer_of}
use Rattle.bench_demand1.specs.Demand1.{BenchDemand1}

-- a refused answer by its own number, and back
own_kept : {A : Type 0} {tests : List (Bool × ℕ)} {number_of : A → ℕ} {answer : A} {refused_by : ℕ → A} → Judges tests number_of answer refused_by
    → accepted (number_of answer) ≡ false → answer ≡ refused_by (number_of answer)
own_kept {refused_by = refused_by} j e = kept_by j e ∙ ap refused_by (sym j.number)

by_number : {A : Type 0} {tests : List (Bool × ℕ)} {number_of : A → ℕ} {answer : A} {refused_by : ℕ → A} → Exact tests → number_of answer ≡ first_of tests
    → (accepted (number_of answer) ≡ false → answer ≡ refused_by (number_of answer)) → Judges tests number_of answer refused_by
by_number {refused_by = refused_by} x n k = record { exact = x; number = n; kept = λ e. k (ap accepted n ∙ e) ∙ ap refused_by n }

-- the named converter is stored back as it was
stored_back : (b : Bench) (k : ℕ) (a : Moved) → a.next ≡ at b k → bench_moved a.refusal (with_converter b k a.next) ≡ bench_moved a.refusal b
stored_back b k a e = ap (bench_moved a.refusal) (ap (with_converter b k) e ∙ with_same b k)

-- a sample
module _ (b : Bench) (k : ℕ) (codes : List ℤ) (p n : ℕ) where
  sample_number : (bench_sampled b k codes p n).refusal ≡ first_of (bench_sample_refusals b k codes)
  unfolding bench_sampled line_refusal
  sample_number =
      split (valid_bench b)
      (λ v. split (is_converter k)
      (λ c. rw (v, c) ((demand1.sample (at b k) codes p n).number ∙ rw (each_valid b v k (ltb-true k converter_count c))))
      (λ c. rw (v, c)))
      (λ v. rw v)

  pub sample_kept : accepted (bench_sampled b k codes p n).refusal ≡ false
      → bench_sampled b k codes p n ≡ bench_moved (bench_sampled b k codes p n).refusal b
  unfolding bench_sampled
  sample_kept e =
      split (accepted (line_refusal b k))
      (λ a. rw a (stored_back b k (sampled (at b k) codes p n)
      (ap (λ (m : Moved). m.next) (kept_by (demand1.sample (at b k) codes p n) (rw a at e)))))
      (λ a. rw a)

-- a grant
pub grant_kept : (b : Bench) (caller receiver n : ℕ) → accepted (bench_granted b caller receiver n).refusal ≡ false
    → bench_granted b caller receiver n ≡ bench_moved (bench_granted b caller receiver n).refusal b
unfolding bench_granted
grant_kept b caller receiver n e =
    let s = at b (converter_of n) in
    split (valid_bench b)
    (λ v. rw v (stored_back b (converter_of n) (granted s caller receiver (local_channel n))
    (ap (λ (m : Moved). m.next) (kept_by (demand1.grant s caller receiver (local_channel n)) (rw v at e)))))
    (λ v. rw v)

-- a reading
module _ (b : Bench) (k party n : ℕ) (frame : List ℕ) where
  pub reading_kept : accepted (bench_reading b k party n frame).refusal ≡ false
      → bench_reading b k party n frame ≡ reading (bench_reading b k party n frame).refusal (pos 0) Neither false false
  unfolding bench_reading
  reading_kept e =
      split (valid_bench b)
      (λ v. rw v (own_kept (demand1.read_channel (at b (converter_of n)) party (channel_on k n) frame) (rw v at e)))
      (λ v. rw v)

  no_part : FormedBench b → accepted (first_of (bench_reading_refusals b k party n frame)) ≡ false → bench_part_bytes b k party n frame ≡ []
  unfolding bench_part_bytes
  no_part f e =
      let s = at b (converter_of n) in
      split (valid_bench b)
      (λ v.
      let number = sym (demand1.read_channel s party (channel_on k n) frame).number
      ∙ ap (λ (a : Reading). a.refusal) (sym (reading_is b v k party n frame)) ∙ readings_as_worded b f k party n frame in
      rw v (demand1.channel_bytes s party (channel_on k n) frame (ap accepted number ∙ e)))
      (λ v. rw v)

-- a plan
module _ (b : Bench) (x : Submission) where
  abbrev k : ℕ
  k = target x

  abbrev s : Converter
  s = at b k

  pub plan_kept : accepted (bench_planned b x).refusal ≡ false
      → bench_planned b x ≡ record { refusal = (bench_planned b x).refusal; converter = 0; length = 0; next = b }
  unfolding bench_planned
  plan_kept e =
      split (valid_bench b)
      (λ v.
      let off = rw v at e in
      let one = own_kept (demand1.plan s (localised x)) off in
      rw (v, off)
      (λ i. record {
        refusal = (planned s (localised x)).refusal;
        converter = 0;
        length = (one i).length;
        next = (ap (λ (p : Planned). with_converter b k p.next) one ∙ with_same b k) i;
      }))
      (λ v. rw v)

  pub tx_kept : (tx : List ℕ) (place : ℕ) → accepted (bench_planned b x).refusal ≡ false → bench_tx_after b x tx place ≡ tx
  unfolding bench_tx_after bench_planned
  tx_kept tx place e =
      split (valid_bench b)
      (λ v. rw v (demand1.tx_kept s (localised x) tx place (ap accepted (sym (demand1.plan s (localised x)).number) ∙ rw v at e)))
      (λ v. rw v)

  plan_judges : FormedBench b → Judges (bench_refusals b (bench_field b) x) (λ (a : BenchPlanned). a.refusal) (bench_planned b x)
      (λ n. record { refusal = n; converter = 0; length = 0; next = b })
  plan_judges f = by_number (exact _ refl) (refusals_as_worded b f x) plan_kept

pub bench_demand1 : BenchDemand1
unfolding bench_powered_up bench_stepped bench_deselected line_refusal
bench_demand1 =
    record {
      power_up = λ ids. by_one (valid_ids ids) _ _ _ refl (λ n. refl);
      step = λ b k byte. chosen (line_refusals b k) _ _ _ (exact _ refl) refl (λ m. refl);
      deselect = λ b k. chosen (line_refusals b k) _ _ _ (exact _ refl) refl (λ m. refl);
      sample = λ b k codes p n. by_number (exact _ refl) (sample_number b k codes p n) (sample_kept b k codes p n);
      grant = λ b caller receiver n. by_number (exact _ refl) (grants_as_worded b caller receiver n) (grant_kept b caller receiver n);
      read_channel = λ b f k party n frame. by_number (exact _ refl) (readings_as_worded b f k party n frame) (reading_kept b k party n frame);
      channel_bytes = λ b f k party n frame. no_part b k party n frame f;
      plan = λ b f x. plan_judges b x f;
      tx_kept = λ b f x tx place e. tx_kept b x tx place (ap accepted (refusals_as_worded b f x) ∙ e);
      plan_live = λ b f x.
          let j = plan_judges b x f in
          record { exact = j.exact; number = j.number; kept = λ e. ap answer_of (j.kept e) };
      live_kept = λ b f x e. ap (λ (a : BenchPlanned). a.next) ((plan_judges b x f).kept e);
    }
