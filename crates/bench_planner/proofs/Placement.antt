-- A plan for the bench lies in the buffer as the named converter's does.
use Prim.Native.Nat.{ℕ}
use mathlib.Core.Path.{◌≡◌, refl, sym, ◌∙◌, ap}
use mathlib.Core.Bool.{true}
use mathlib.Core.List.{List, [], ◌∷◌, map}
use native.Mathlib.Omega.{arith}
use Rattle.cases.proofs.Cases.{split}
use Rattle.refusal.specs.Numbers.{none}
use Rattle.ads1299.specs.declared.Converter.{Converter}
use Rattle.request.specs.declared.Request.{Request}
use Rattle.planner.specs.Submission.{Submission, submission}
use Rattle.planner.specs.Plan.{plan_length}
use Rattle.planner.specs.Planned.{plan, planned}
use Rattle.planner.specs.Buffer.{tx_after}
use Rattle.planner.proofs.Accepted.{accepted_is}
use Rattle.planner.proofs.Placement as one
use Rattle.bench.specs.declared.Bench.{Bench}
use Rattle.bench.specs.Bench.{at, valid_bench}
use Rattle.bench.specs.Run.{bytes_for}
use Rattle.bench_planner.specs.Local.{target, local_request, localised}
use Rattle.bench_planner.specs.Planned.{bench_planned, bench_plan}
use Rattle.bench_planner.specs.Buffer.{bench_tx_after}
use Rattle.bench_planner.specs.Placement.{InPlace, Placement}

bytes_of : (k : ℕ) (bytes : List ℕ) → map (λ (y : ℕ × ℕ). y.1) (bytes_for k bytes) ≡ bytes
bytes_of k [] = refl
bytes_of k (byte ∷ bytes) = ap (λ (rest : List ℕ). byte ∷ rest) (bytes_of k bytes)

length_is : (s : Converter) (x : Submission) → (planned s x).refusal ≡ none → (planned s x).length ≡ plan_length s x.request
unfolding planned
length_is s x e = rw (accepted_is s x e)

module _ (b : Bench) (party : ℕ) (r : Request) (tx : List ℕ) (place : ℕ) (v : valid_bench b ≡ true) where
  abbrev x : Submission
  x = submission party r tx place

  abbrev s : Converter
  s = at b (target x)

  after_is : bench_tx_after b x tx place ≡ tx_after s (localised x) tx place
  unfolding bench_tx_after
  after_is = rw v

  refusal_is : (bench_planned b x).refusal ≡ (planned s (localised x)).refusal
  unfolding bench_planned
  refusal_is = rw v

  in_place : (bench_planned b x).refusal ≡ none → InPlace b x tx place
  unfolding bench_planned bench_plan
  in_place e =
      let z = sym refusal_is ∙ e in
      let p = (one.placement s party (local_request r) tx place).accepted z in
      let size = length_is s (localised x) z in
      record {
        bytes = rw (after_is, v, size, bytes_of (target x) (plan s (localised x))) p.bytes;
        before = rw after_is p.before;
        after = rw (after_is, v, size) p.after;
      }

pub placement : Placement
unfolding bench_tx_after bench_planned
placement b party r tx place =
    let x = submission party r tx place in
    let p = one.placement (at b (target x)) party (local_request r) tx place in
    split (valid_bench b)
    (λ v. record {
      size = rw v p.size;
      accepted = in_place b party r tx place v;
      refused = λ e. rw v (p.refused (rw v at e));
    })
    (λ v. record { size = rw v; accepted = λ e. absurd (omega (arith, rw v at e)); refused = λ e. rw v })
