-- Demand 2 on the bench: a plan's bytes reach the named converter alone (bench.Run), and of that converter demand 2 says the rest.
use Prim.Native.Nat.{ℕ, ◌≤◌, ◌<◌}
use mathlib.Core.Path.{◌≡◌, refl, sym, ◌∙◌, ap}
use mathlib.Core.Bool.{true, false, ◌&&◌}
use mathlib.Core.List.{List}
use native.Mathlib.Omega.{arith}
use borrow.Author.Tests.{eqb-true, eqb-false, eq-eqb, ne_eqb}
use lib.Dec.{eqb}
use lib.ListN.{length, length-map, replicate}
use Rattle.cases.specs.Every.{any_of}
use Rattle.cases.proofs.Cases.{split}
use Rattle.refusal.specs.Numbers.{none}
use Rattle.refusal.proofs.First.{exact}
use Rattle.ads1299_registers.specs.Addresses.{channel_count}
use Rattle.ads1299.specs.declared.Converter.{Converter}
use Rattle.ads1299.specs.Run.{after}
use Rattle.ads1299_settings.specs.Settings.{Setting}
use Rattle.request.specs.declared.Request.{Request}
use Rattle.planner.specs.Submission.{Submission}
use Rattle.planner.specs.Settings.{sets_field}
use Rattle.planner.specs.Planned.{plan, planned}
use Rattle.planner.proofs.Accepted.{accepted_is, passed}
use Rattle.demand2.specs.Demand2 as one
use Rattle.demand2.proofs.Demand2.{demand2}
use Rattle.lines.specs.Lines.{converter_count, converter_of, local_channel, bench_channel}
use Rattle.lines.proofs.Numbering.{below_four}
use Rattle.bench.specs.declared.Bench.{Bench}
use Rattle.bench.specs.Bench.{at, with_converter, valid_bench}
use Rattle.bench.specs.Formed.{FormedBench}
use Rattle.bench.specs.Line.{bench_moved, bench_deselected}
use Rattle.bench.specs.Run.{bytes_for, bench_after, bench_run_refusals}
use Rattle.bench.proofs.Converters.{at_same, at_other, with_same, with_valid}
use Rattle.bench.proofs.StaysValid.{idle_deselect}
use Rattle.bench.proofs.Run.{run_one, run_refusals_lem}
use Rattle.bench_planner.specs.Local.{target, local_request, localised}
use Rattle.bench_planner.specs.Fields.{bench_named, bench_field}
use Rattle.bench_planner.specs.Refusals.{bench_refusals}
use Rattle.bench_planner.specs.Planned.{bench_planned, bench_plan}
use Rattle.bench_planner.proofs.Worded.{local_settings, takes_local, refusals_as_worded}
use Rattle.bench_planner.proofs.Channels.{low, named_local, back, same_channel, names_mapped}
use Rattle.bench_demand2.specs.Demand2.{sent, Fulfilled, Refused, BenchDemand2}

-- a request sets a field of its own converter by the bench's number exactly where it does by the converter's
sets_local : (r : Request) (f n : ℕ) → converter_of n ≡ converter_of r.channel → local_channel n ≤ channel_count
    → sets_field (local_request r) f (local_channel n) ≡ sets_field r f n
unfolding local_request
sets_local r f n e h =
    let number : eqb (local_channel r.channel) (local_channel n) ≡ eqb r.channel n =
    sym (same_channel r.channel (local_channel n) h) ∙ ap (eqb r.channel) (ap (λ (k : ℕ). bench_channel k (local_channel n)) (sym e) ∙ back n h) in
    (λ i. any_of (λ (a : Setting). eqb a.field f && number i) (local_settings r i))

module _ (b : Bench) (f : FormedBench b) (x : Submission) where
  abbrev k : ℕ
  k = target x

  abbrev s : Converter
  s = at b k

  below : k < converter_count
  below = below_four x.request.channel

  taken_valid : (bench_planned b x).refusal ≡ none → valid_bench b ≡ true
  unfolding bench_planned
  taken_valid e = split (valid_bench b) (λ v. v) (λ v. absurd (omega (arith, rw v at e)))

  module _ (v : valid_bench b ≡ true) (e : (bench_planned b x).refusal ≡ none) where
    abbrev bytes : List ℕ
    bytes = plan s (localised x)

    abbrev u : Converter
    u = after s bytes

    taken : (planned s (localised x)).refusal ≡ none
    unfolding bench_planned
    taken = rw v at e

    full : one.Fulfilled s (localised x)
    full = (demand2 s (f.each k below) (localised x)).fulfilled taken

    number : (bench_planned b x).converter ≡ k
    unfolding bench_planned
    number = rw (v, taken)

    plan_is : bench_plan b x ≡ bytes_for k bytes
    unfolding bench_plan
    plan_is = rw v

    sent_is : sent b x ≡ with_converter b k u
    sent_is = ap (bench_after b) plan_is ∙ run_one k below bytes b v

    own : at (sent b x) k ≡ u
    own = ap (λ (d : Bench). at d k) sent_is ∙ at_same b k f.size below u

    others : (j : ℕ) → (j ≡ k → ⊥) → at (sent b x) j ≡ at b j
    others j ne = ap (λ (d : Bench). at d j) sent_is ∙ at_other b k u j ne

    next_is : (bench_planned b x).next ≡ sent b x
    unfolding bench_planned
    next_is = rw v (ap (with_converter b k) full.next) ∙ sym sent_is

    field_is : (g n : ℕ) → bench_named g n ≡ true → sets_field x.request g n ≡ false → bench_field (sent b x) g n ≡ bench_field b g n
    unfolding bench_field
    field_is g n name ne =
        let there = named_local g n ∙ name in
        split (eqb (converter_of n) k)
        (λ q.
        let c = eqb-true (converter_of n) k q in
        rw (c, own) (full.fields g (local_channel n) there (sets_local x.request g n c (low g (local_channel n) there) ∙ ne)))
        (λ q. rw (others (converter_of n) (eqb-false (converter_of n) k q)))

    passes : valid_bench (with_converter b k u) ≡ true
    passes = with_valid b v k below u (rw (← full.next) full.passes)

    rise_is : bench_deselected (with_converter b k u) k ≡ bench_moved none (with_converter b k u)
    rise_is =
        let still = ap (λ (c : Converter). c.phase) full.rest ∙ (passed s (localised x) (accepted_is s (localised x) taken)).waits in
        let own_is = at_same b k f.size below u in
        idle_deselect (with_converter b k u) passes k below (rw own_is still) (rw own_is (ap (λ (c : Converter). c.output) full.rest))

    length_is : length (bench_plan b x) ≡ length bytes
    length_is = ap (λ (l : List (ℕ × ℕ)). length l) plan_is ∙ length-map bytes (λ byte. (k, byte))

    counted : (bench_planned b x).length ≡ length (bench_plan b x)
    unfolding bench_planned
    counted = rw v full.counted ∙ sym length_is

    fulfilled : Fulfilled b x
    unfolding bench_field local_request
    fulfilled =
        let r = x.request in
        let takes = sym (takes_local r.field r.channel) ∙ (passed s (localised x) (accepted_is s (localised x) taken)).takes in
        record {
          converter = rw number (names_mapped k r.field r.channel below takes ∙ eq-eqb k k refl);
          bytes = rw number plan_is;
          unrefused = ap (bench_run_refusals b) plan_is ∙ run_refusals_lem k below bytes b v ∙ full.unrefused
              ∙ ap (λ (n : ℕ). replicate n none) (sym length_is);
          values = λ i lt. rw own (full.values i lt);
          fields = field_is;
          places = λ j t. rw (number, own) (full.others j (rw (local_settings r) t));
          rest = rw (number, own) full.rest;
          others = λ j ne. others j (λ z. ne (z ∙ sym number));
          next = next_is;
          passes = rw (next_is, sent_is) passes;
          counted = counted;
          rise = rw (number, sent_is) rise_is;
        }

  refused : ((bench_planned b x).refusal ≡ none → ⊥) → Refused b x
  unfolding bench_planned bench_plan
  refused e =
      split (valid_bench b)
      (λ v.
      let r = (demand2 s (f.each k below) (localised x)).refused (rw v at e) in
      record {
        next = rw v (ap (with_converter b k) r.next ∙ with_same b k);
        converter = rw (v, ne_eqb (planned s (localised x)).refusal none (rw v at e));
        counted = rw v r.counted;
        bytes = rw v (ap (bytes_for k) r.bytes);
      })
      (λ v. record { next = rw v; converter = rw v; counted = rw v; bytes = rw v })

pub bench_demand2 : BenchDemand2
bench_demand2 b f x =
    record {
      first = refusals_as_worded b f x;
      exact = exact (bench_refusals b (bench_field b) x) refl;
      fulfilled = λ e. fulfilled b f x (taken_valid b f x e) e;
      refused = refused b f x;
    }
