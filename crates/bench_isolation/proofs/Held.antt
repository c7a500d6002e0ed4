-- What a bench keeps through a list of requests: each converter is held to its first state and to its part of the reference model's cells.
-- A request sets cells as the reference model of the converter that it names sets them, and those of no other converter.
use Prim.Native.Nat.{ℕ, ◌<◌}
use mathlib.Core.Path.{◌≡◌, refl, sym, ◌∙◌, ap}
use mathlib.Core.Bool.{Bool, true, false, cond, ◌&&◌}
use mathlib.Core.List.{List, [], ◌∷◌}
use borrow.Author.Tests.{eqb-true, eqb-false, eq-eqb, ne_eqb}
use lib.Dec.{eqb}
use lib.ListN.{length, length-set}
use Rattle.cases.proofs.Cases.{split, and_both}
use Rattle.refusal.specs.First.{accepted}
use Rattle.ads1299.specs.declared.Converter.{Converter}
use Rattle.ads1299.specs.Validity.{valid}
use Rattle.ads1299_fields.specs.Names.{named}
use Rattle.ads1299_settings.specs.Settings.{Setting, Values, with_value, with_values}
use Rattle.planner.specs.Submission.{Submission}
use Rattle.planner.specs.Settings.{settings}
use Rattle.planner.specs.Refusals.{judged}
use Rattle.planner.specs.Planned.{plan}
use Rattle.planner.proofs.Accepted.{number_is, next}
use Rattle.demand2.proofs.Modes.{after_valid}
use Rattle.demand2.proofs.Sent.{sent_plan}
use Rattle.isolation.specs.Reference as single
use Rattle.isolation.proofs.Held as one
use Rattle.lines.specs.Lines.{converter_count, converter_of, local_channel, bench_channel}
use Rattle.lines.proofs.Numbering.{below_four, converter_back, channel_back}
use Rattle.bench.specs.declared.Bench.{Bench}
use Rattle.bench.specs.Bench.{at, valid_bench}
use Rattle.bench.specs.Formed.{FormedBench}
use Rattle.bench.proofs.Converters.{each_with, each_valid, with_valid}
use Rattle.bench_planner.specs.Local.{target, local_request, localised}
use Rattle.bench_planner.specs.Planned.{bench_planned}
use Rattle.bench_planner.specs.Fields.{bench_field}
use Rattle.bench_planner.proofs.Worded.{local_settings, here, mapped_number, worded}
use Rattle.bench_isolation.specs.Reference.{reference_number, cells_after}
use Rattle.bench_planner.proofs.Channels.{low, same_channel}

-- bench t, reached from b, where the cells are c
pub record HeldBench (b t : Bench) (c : Values) : Type 0 where
  pub size : length t.converters ≡ converter_count
  pub judges : valid_bench t ≡ valid_bench b
  pub each : (k : ℕ) → k < converter_count → one.Held (at b k) (at t k) (here k c)

-- cells count only where something is named
recelled : {s t : Converter} {c d : Values} → one.Held s t c → ((f n : ℕ) → named f n ≡ true → c f n ≡ d f n) → one.Held s t d
recelled h e = record { formed = h.formed; judges = h.judges; cells = λ f n k. h.cells f n k ∙ e f n k; free = h.free; rest = h.rest }

pub held_first : (b : Bench) → FormedBench b → HeldBench b b (bench_field b)
unfolding bench_field
held_first b h =
    record {
      size = h.size;
      judges = refl;
      each = λ k lt.
          recelled (one.held_first (at b k) (h.each k lt))
          (λ f m e. sym (rw (converter_back k m lt (low f m e), channel_back k m lt (low f m e))));
    }

-- settings made in a channel, by two numbers that tell the same of it
renumbered : (given : List Setting) (u v : Values) (n i f m j : ℕ) → eqb n m ≡ eqb i j → u f m ≡ v f j → with_values u n given f m ≡ with_values v i given f j
unfolding with_values
renumbered [] u v n i f m j e q = q
renumbered (a ∷ rest) u v n i f m j e q =
    renumbered rest (with_value u n a) (with_value v i a) n i f m j e (λ k. cond (eqb a.field f && e k) a.value (q k))

elsewhere : (given : List Setting) (u : Values) (n f m : ℕ) → eqb n m ≡ false → with_values u n given f m ≡ u f m
unfolding with_values
elsewhere [] u n f m e = refl
elsewhere (a ∷ rest) u n f m e =
    elsewhere rest (with_value u n a) n f m e ∙ split (eqb a.field f) (λ q. rw (q, e)) (λ q. rw q)

-- the request comes to converter j: 13 does not refuse it, and it names that one
abbrev pub reaches : Bench → Submission → ℕ → Bool
reaches b x j = valid_bench b && eqb (target x) j

module _ (b : Bench) (h : FormedBench b) (c : Values) (x : Submission) where
  -- where 13 does not refuse, the number is that of the named converter's reference model
  pub judged_here : valid_bench b ≡ true → judged (at b (target x)) (here (target x) c) (localised x) ≡ reference_number b c x
  unfolding reference_number mapped_number
  judged_here v =
      let mapped : judged (at b (target x)) (here (target x) c) (localised x) ≡ mapped_number b c x = rw v in
      mapped ∙ worded b h c x

  -- the cells of the converter that it comes to are set as that converter's reference model sets them
  pub set_here : (j : ℕ) → reaches b x j ≡ true → (f m : ℕ) → named f m ≡ true
      → single.cells_after (at b j) (here j c) (localised x) f m ≡ here j (cells_after b c x) f m
  unfolding single.cells_after cells_after local_request
  set_here j e f m name =
      let r = x.request in
      let w = and_both (valid_bench b) (eqb (target x) j) e in
      rw (← eqb-true (target x) j w.1, local_settings r)
      (λ i. cond (accepted (judged_here w.0 i))
      (renumbered (settings r) (here (target x) c) c (local_channel r.channel) r.channel f m (bench_channel (target x) m)
      (sym (same_channel r.channel m (low f m name))) refl i) (here (target x) c f m))

  -- and those of the others are kept
  pub kept_here : (j : ℕ) → j < converter_count → reaches b x j ≡ false → (f m : ℕ) → named f m ≡ true
      → here j c f m ≡ here j (cells_after b c x) f m
  unfolding cells_after reference_number
  kept_here j lt e f m name =
      split (valid_bench b)
      (λ v.
      let other = eqb-false (target x) j (rw v at e) in
      let off = ne_eqb x.request.channel (bench_channel j m) (λ z. other (ap converter_of z ∙ converter_back j m lt (low f m name))) in
      split (accepted (reference_number b c x))
      (λ a. rw a (sym (elsewhere (settings x.request) c x.request.channel f (bench_channel j m) off))) (λ a. rw a))
      (λ v. rw v)

module _ (b : Bench) (h : FormedBench b) (t : Bench) (c : Values) (held : HeldBench b t c) (x : Submission) where
  -- the number is the reference model's
  pub refusal_is : (bench_planned t x).refusal ≡ reference_number b c x
  unfolding bench_planned
  refusal_is =
      let j = target x in
      split (valid_bench b)
      (λ v. rw (held.judges, v)
      (number_is (at t j) (localised x) ∙ one.refusal_is (at b j) (at t j) (here j c) (held.each j (below_four x.request.channel)) (localised x)
      ∙ judged_here b h c x v))
      (λ v. unfold reference_number in rw (held.judges, v))

  pub held_next : HeldBench b (bench_planned t x).next (cells_after b c x)
  unfolding bench_planned
  held_next =
      let j = target x in
      let lt = below_four x.request.channel in
      let u = next (at t j) (localised x) in
      split (valid_bench b)
      (λ v.
      let w = held.judges ∙ v in
      let f = (held.each j lt).formed in
      let still : valid u ≡ true = rw (← sent_plan (at t j) f (localised x)) (after_valid (plan (at t j) (localised x)) (at t j) (each_valid t w j lt)) in
      rw w (record {
        size = length-set t.converters j u ∙ held.size;
        judges = with_valid t w j lt u still ∙ sym v;
        each = each_with t j held.size lt (λ i (d : Converter). one.Held (at b i) d (here i (cells_after b c x))) u
            (recelled (one.held_next (at b j) (at t j) (here j c) (held.each j lt) (localised x)) (set_here b h c x j (rw (v, eq-eqb j j refl))))
            (λ i l ne. recelled (held.each i l) (kept_here b h c x i l (rw (v, ne_eqb j i (λ z. ne (sym z))))));
      }))
      (λ v.
      rw (held.judges ∙ v) (record { size = held.size; judges = held.judges; each = λ i l. recelled (held.each i l) (kept_here b h c x i l (rw v)) }))
