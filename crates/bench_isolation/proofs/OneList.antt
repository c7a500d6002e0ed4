-- Every list of requests follows the reference model: by induction on the list, with HeldBench as its invariant.
use Rattle.std.specs.Prelude.{None}
use Prim.Native.Nat.{ℕ, ◌<◌}
use mathlib.Core.Path.{◌≡◌, refl, sym, ◌∙◌, ap}
use mathlib.Core.Bool.{Bool, true, cond, ◌&&◌, ◌||◌}
use mathlib.Core.List.{List, [], ◌∷◌, flatten}
use borrow.Author.Tests.{eqb-true, eqb-false}
use lib.Dec.{eqb}
use lib.ListN.{length}
use Rattle.cases.proofs.Cases.{split, and_both, and_false}
use Rattle.refusal.specs.First.{accepted}
use Rattle.ads1299.specs.declared.Converter.{Converter}
use Rattle.ads1299.specs.State.{with_registers, with_output}
use Rattle.ads1299_settings.specs.Settings.{Values}
use Rattle.planner.specs.Submission.{Submission}
use Rattle.planner.specs.Planned.{refusal_of, plan}
use Rattle.planner.proofs.Accepted.{number_is, next, passed}
use Rattle.demand2.proofs.Sent.{sent_plan}
use Rattle.isolation.proofs.OneList.{rest_next}
use Rattle.lines.specs.Lines.{converter_count, converter_of, local_channel}
use Rattle.lines.specs.Ranges.{names}
use Rattle.lines.proofs.Numbering.{below_four}
use Rattle.bench.specs.declared.Bench.{Bench}
use Rattle.bench.specs.Bench.{at, with_converter, valid_bench}
use Rattle.bench.specs.Run.{bench_after}
use Rattle.bench.specs.Formed.{FormedBench}
use Rattle.bench.proofs.Converters.{at_same, at_other}
use Rattle.bench.proofs.Run.{after_append, run_one}
use Rattle.bench_planner.specs.Local.{target, local_request, localised}
use Rattle.bench_planner.specs.Planned.{bench_planned, bench_plan}
use Rattle.bench_planner.specs.Fields.{bench_named, bench_field}
use Rattle.bench_planner.proofs.Worded.{takes_local}
use Rattle.bench_isolation.specs.Reference.{cells_after, numbers_from, cells_from, reference_cells}
use Rattle.bench_isolation.specs.Lists.{numbers, plans, end, touched}
use Rattle.bench_isolation.specs.Demand3.{AllFollowReference}
use Rattle.bench_planner.proofs.Channels.{low, named_local, back, names_mapped}
use Rattle.bench_isolation.proofs.Held.{HeldBench, held_first, reaches, refusal_is, held_next}

-- the bench that the planner answers
abbrev pub next_bench : Bench → Submission → Bench
next_bench b x = (bench_planned b x).next

-- each converter after a request: the one that it names as its own planner leaves it, the others as they were
next_at : (t : Bench) → length t.converters ≡ converter_count → (x : Submission) (k : ℕ)
    → at (next_bench t x) k ≡ cond (reaches t x k) (next (at t (target x)) (localised x)) (at t k)
unfolding bench_planned
next_at t size x k =
    let j = target x in
    let u = next (at t j) (localised x) in
    split (valid_bench t)
    (λ v. split (eqb j k)
    (λ q. rw (next_bench, v, q, ← eqb-true j k q) (at_same t j size (below_four x.request.channel) u))
    (λ q. rw (next_bench, v, q) (at_other t j u k (λ z. eqb-false j k q (sym z)))))
    (λ v. rw (next_bench, v))

-- an accepted request names the converter that it comes to
counts : (t : Bench) (x : Submission) (k : ℕ) → k < converter_count
    → (names k x.request.channel && accepted (bench_planned t x).refusal) ≡ (reaches t x k && accepted (refusal_of (at t (target x)) (localised x)))
unfolding bench_planned local_request
counts t x k lt =
    let j = target x in
    let r = x.request in
    let number = number_is (at t j) (localised x) in
    split (valid_bench t)
    (λ v. split (accepted (refusal_of (at t j) (localised x)))
    (λ a. rw (v, number, a, names_mapped k r.field r.channel lt (sym (takes_local r.field r.channel) ∙ (passed (at t j) (localised x) a).takes)))
    (λ a. rw (v, number, a) (and_false (names k r.channel) ∙ sym (and_false (eqb j k)))))
    (λ v. rw v (and_false (names k r.channel)))

-- the output
rest_next_bench : (t : Bench) → length t.converters ≡ converter_count → (x : Submission) (k : ℕ) → k < converter_count → (l : List ℕ) (e : Bool)
    → with_output (with_registers (at (next_bench t x) k) l) (cond e None (at (next_bench t x) k).output)
    ≡ with_output (with_registers (at t k) l)
    (cond ((names k x.request.channel && accepted (bench_planned t x).refusal) || e) None (at t k).output)
rest_next_bench t size x k lt l e =
    rw (next_at t size x k, counts t x k lt)
    (split (reaches t x k)
    (λ q. rw (q, ← eqb-true (target x) k (and_both (valid_bench t) (eqb (target x) k) q).1) (rest_next (at t (target x)) (localised x) l e))
    (λ q. rw q))

-- the bytes
sent_one : (b t : Bench) (c : Values) → HeldBench b t c → (x : Submission) → bench_after t (bench_plan t x) ≡ next_bench t x
unfolding bench_plan bench_planned bench_after
sent_one b t c held x =
    let k = target x in
    let lt = below_four x.request.channel in
    split (valid_bench t)
    (λ v. rw (next_bench, v) (run_one k lt (plan (at t k) (localised x)) t v
    ∙ ap (λ (u : Converter). with_converter t k u) (sent_plan (at t k) (held.each k lt).formed (localised x))))
    (λ v. rw (next_bench, v))

module _ (b : Bench) (h : FormedBench b) where
  pub held_end : (l : List Submission) (t : Bench) (c : Values) → HeldBench b t c → HeldBench b (end t l) (cells_from b c l)
  unfolding end cells_from
  held_end [] t c held = held
  held_end (x ∷ l) t c held = held_end l (next_bench t x) (cells_after b c x) (held_next b h t c held x)

  numbers_are : (l : List Submission) (t : Bench) (c : Values) → HeldBench b t c → numbers t l ≡ numbers_from b c l
  unfolding numbers numbers_from
  numbers_are [] t c held = refl
  numbers_are (x ∷ l) t c held = rw (refusal_is b h t c held x, numbers_are l (next_bench t x) (cells_after b c x) (held_next b h t c held x))

  cell_is : (t : Bench) (c : Values) → HeldBench b t c → (f n : ℕ) → bench_named f n ≡ true → bench_field t f n ≡ c f n
  unfolding bench_field
  cell_is t c held f n e =
      let name = named_local f n ∙ e in
      (held.each (converter_of n) (below_four n)).cells f (local_channel n) name ∙ ap (c f) (back n (low f (local_channel n) name))

  all_else : (l : List Submission) (t : Bench) (c : Values) → HeldBench b t c → (k : ℕ) → k < converter_count
      → at (end t l) k ≡ with_output (with_registers (at t k) (at (end t l) k).registers) (cond (touched k l (numbers t l)) None (at t k).output)
  unfolding end numbers touched
  all_else [] t c held k lt = refl
  all_else (x ∷ l) t c held k lt =
      let u = next_bench t x in
      all_else l u (cells_after b c x) (held_next b h t c held x) k lt
      ∙ rest_next_bench t held.size x k lt (at (end u l) k).registers (touched k l (numbers u l))

  sent_plans : (l : List Submission) (t : Bench) (c : Values) → HeldBench b t c → bench_after t (flatten (plans t l)) ≡ end t l
  unfolding plans flatten end bench_after
  sent_plans [] t c held = refl
  sent_plans (x ∷ l) t c held =
      after_append (bench_plan t x) t (flatten (plans (next_bench t x) l))
      ∙ rw (sent_one b t c held x) (sent_plans l (next_bench t x) (cells_after b c x) (held_next b h t c held x))

pub follows_reference : AllFollowReference
follows_reference b h l =
    let first = held_first b h in
    let last = held_end b h l b (bench_field b) first in
    record {
      reference_numbers_lem = numbers_are b h l b (bench_field b) first;
      fields = cell_is b h (end b l) (reference_cells b l) last;
      free_bits = λ k r i lt. (last.each k lt).free r i;
      all_else = all_else b h l b (bench_field b) first;
      formed = record { size = last.size; each = λ k lt. (last.each k lt).formed };
      sent = sent_plans b h l b (bench_field b) first;
    }
