-- Two plans of one request, made after lists that have the same earlier requests of its party: as on one converter, with each plan made on a
-- bench whose own cells of the party are those of the party alone.
use Prim.Native.Nat.{ℕ}
use mathlib.Core.Path.{◌≡◌, refl}
use mathlib.Core.List.{List, [], ◌∷◌}
use borrow.Author.Tests.{eqb-true}
use lib.Dec.{eqb}
use Rattle.cases.proofs.Cases.{split}
use Rattle.ads1299_settings.specs.Settings.{Values}
use Rattle.planner.specs.Submission.{Submission}
use Rattle.planner.specs.Planned.{plan}
use Rattle.isolation.specs.Merges.{from, answers_to}
use Rattle.isolation.proofs.Plans.{alike}
use Rattle.lines.proofs.Numbering.{below_four}
use Rattle.bench.specs.declared.Bench.{Bench}
use Rattle.bench.specs.Bench.{at, valid_bench}
use Rattle.bench.specs.Formed.{FormedBench}
use Rattle.bench_planner.specs.Local.{target, localised}
use Rattle.bench_planner.specs.Planned.{bench_plan}
use Rattle.bench_planner.proofs.Worded.{here}
use Rattle.bench_isolation.specs.Reference.{reference_number, cells_after, numbers_from}
use Rattle.bench_isolation.specs.Lists.{plans}
use Rattle.bench_isolation.specs.Merges.{BenchAlike, AllAlike, no_plans, more_plans}
use Rattle.bench_isolation.proofs.Held.{HeldBench, judged_here, held_next}
use Rattle.bench_isolation.proofs.OneList.{next_bench}
use Rattle.bench_isolation.proofs.Own.{SameOwn, own_step, other_step}

module _ (b : Bench) (h : FormedBench b) where
  bench_alike : (d : Values) (x : Submission) (t u : Bench) (c e : Values) → HeldBench b t c → HeldBench b u e
      → SameOwn b x.party c d → SameOwn b x.party e d → BenchAlike b x (reference_number b d x) (bench_plan t x) (bench_plan u x)
  unfolding bench_plan reference_number
  bench_alike d x t u c e ht hu st su =
      let k = target x in
      let lt = below_four x.request.channel in
      split (valid_bench b)
      (λ v. rw (← judged_here b h d x v, ht.judges, hu.judges, v) (record {
        one = plan (at t k) (localised x);
        other = plan (at u k) (localised x);
        first_is = refl;
        second_is = refl;
        alike = alike (at b k) (here k d) (localised x) (at t k) (at u k) (here k c) (here k e) (ht.each k lt) (hu.each k lt) (st k lt) (su k lt);
      }))
      (λ v. rw (ht.judges, hu.judges, v) (record {
        one = [];
        other = [];
        first_is = refl;
        second_is = refl;
        alike = record {
          one = [];
          other = [];
          first_is = refl;
          second_is = refl;
          own_bits = λ r i own. refl;
          own_registers = λ a r inside e. refl;
          same_plan = λ none. refl;
        };
      }))

-- plans of p's requests, each made on a bench whose own cells of p are those of p alone
pub data Made (b : Bench) (p : ℕ) : Values → List Submission → List (List (ℕ × ℕ)) → Type 0 where
  done : {d : Values} → Made b p d [] []
  then : {d : Values} {l : List Submission} {x : Submission} {ps : List (List (ℕ × ℕ))} (t : Bench) (c : Values)
      → HeldBench b t c → SameOwn b p c d → x.party ≡ p → Made b p (cells_after b d x) l ps → Made b p d (x ∷ l) (bench_plan t x ∷ ps)

module _ (b : Bench) (h : FormedBench b) (p : ℕ) where
  pub made : (l : List Submission) (t : Bench) (c d : Values) → HeldBench b t c → SameOwn b p c d → Made b p d (from p l) (answers_to p l (plans t l))
  unfolding from plans answers_to
  made [] t c d k same = done
  made (x ∷ l) t c d k same =
      let later : (e : Values) → SameOwn b p (cells_after b c x) e → Made b p e (from p l) (answers_to p l (plans (next_bench t x) l)) =
      λ e. made l (next_bench t x) (cells_after b c x) e (held_next b h t c k x) in
      split (eqb x.party p)
      (λ q.
      let z = eqb-true x.party p q in
      rw q (then t c k same z (later (cells_after b d x) (own_step b h p c d x z same))))
      (λ q. rw q (later d (other_step b h p c d x q same)))

  pub both_made : {d : Values} {l : List Submission} {ps qs : List (List (ℕ × ℕ))} → Made b p d l ps → Made b p d l qs → AllAlike b l (numbers_from b d l) ps qs
  unfolding numbers_from
  both_made done done = no_plans
  both_made (then {d = d} {x = x} t c kt st e y) (then u g ku su f z) =
      more_plans (bench_alike b h d x t u c g kt ku (rw e st) (rw e su)) (both_made y z)
