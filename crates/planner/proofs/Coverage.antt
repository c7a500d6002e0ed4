-- A request's runs and its settings have the same registers: for a whole channel by one test over every channel and register.
use Prim.Native.Nat.{ℕ, ◌+◌, ◌-◌}
use mathlib.Core.Path.{◌≡◌, refl, sym, ◌∙◌}
use mathlib.Core.Bool.{Bool, true, not, ◌&&◌, ◌||◌, false≢true}
use mathlib.Core.List.{[], ◌∷◌}
use native.Mathlib.Omega.{arith}
use borrow.Author.Tests.{eq-eqb, leb-true, le-leb, lt-ltb, ltb-true, ltb-false, le-ltb}
use lib.Dec.{eqb, leb, ltb}
use Rattle.cases.specs.Below.{below}
use Rattle.cases.specs.Every.{every, any_of}
use Rattle.cases.proofs.Cases.{split, and_both}
use Rattle.cases.proofs.Below.{below_at}
use Rattle.ads1299_registers.specs.Addresses.{register_count, channel_count}
use Rattle.ads1299_registers.specs.Channels.{is_channel}
use Rattle.ads1299_registers.proofs.Bounds.{bounds}
use Rattle.ads1299_fields.specs.Table.{table, row_of}
use Rattle.ads1299_fields.specs.Names.{whole_channel, named}
use Rattle.ads1299_fields.specs.Places.{place}
use Rattle.ads1299_fields.proofs.Apart.{place_in_list}
use Rattle.planner.specs.Runs.{Run, run, whole_runs, runs, in_run, in_runs}
use Rattle.planner.specs.Coverage.{RunsCover}
use Rattle.planner.proofs.Settings.{channel_fields, every_field, some_field, whole_takes}

abbrev among : Run → Bool
among x = ltb (x.first + x.further) register_count

abbrev covers : ℕ → Bool
covers n = every (λ f. in_runs (whole_runs n) (place f n).register) channel_fields

abbrev needs : ℕ → ℕ → Bool
needs n i = not (in_runs (whole_runs n) i) || any_of (λ f. eqb (place f n).register i) channel_fields

abbrev at_channel : ℕ → Bool
at_channel n = not (is_channel n) || (every among (whole_runs n) && covers n && below register_count (needs n))

whole_test : below (channel_count + 1) at_channel ≡ true
unfolding named place row_of table
whole_test = refl

module _ (n : ℕ) (h : is_channel n ≡ true) where
  at_channel_lem : (every among (whole_runs n) && covers n && below register_count (needs n)) ≡ true
  at_channel_lem = let b = bounds n h in rw h at (below_at (channel_count + 1) at_channel whole_test n (omega (arith, b.high)))

  first_two : (every among (whole_runs n) && covers n) ≡ true
  first_two = (and_both (every among (whole_runs n) && covers n) (below register_count (needs n)) at_channel_lem).0

  whole_needed : (i : ℕ) → in_runs (whole_runs n) i ≡ true → any_of (λ f. eqb (place f n).register i) channel_fields ≡ true
  whole_needed i e =
      let b = bounds n h in
      split (ltb i register_count)
      (λ q. rw e at (below_at register_count (needs n) (and_both (every among (whole_runs n) && covers n) (below register_count (needs n)) at_channel_lem).1 i (ltb-true i register_count q)))
      (λ q.
      let le = ltb-false i register_count q in
      absurd (false≢true (sym (rw (le-leb (5 + (n - 1)) i (omega (arith, b.high)), le-leb 13 i (omega arith), le-ltb i (5 + (n - 1) + 1) (omega (arith, b.high)), le-ltb i 18 (omega arith)) refl) ∙ e)))

-- the run of one register has it and no other
one_has : (r : ℕ) → in_run r (run r 0) ≡ true
one_has r = rw (le-leb r r (omega arith), lt-ltb r (r + 1) (omega arith))

one_only : (r i : ℕ) → in_runs (run r 0 ∷ []) i ≡ true → r ≡ i
one_only r i e =
    split (in_run i (run r 0))
    (λ q.
    let b = and_both (leb r i) (ltb i (r + 1)) q in
    let low = leb-true r i b.0 in
    let high = ltb-true i (r + 1) b.1 in
    omega arith)
    (λ q. absurd (false≢true (rw q at e)))

pub runs_cover : RunsCover
runs_cover r takes =
    let n = r.channel in
    let at = (place r.field n).register in
    let channel : eqb r.field whole_channel ≡ true → is_channel n ≡ true = λ w. whole_takes r w takes in
    record {
      inside = split (eqb r.field whole_channel)
          (λ w. rw w (and_both (every among (whole_runs n)) (covers n) (first_two n (channel w))).0)
          (λ w. rw (w, lt-ltb (at + 0) register_count (omega (arith, place_in_list r.field n))));
      covers = every_field r (λ f. in_runs (runs r) (place f n).register)
          (λ w. rw w (and_both (every among (whole_runs n)) (covers n) (first_two n (channel w))).1)
          (λ w. rw (w, one_has at));
      needed = λ i e. some_field r (λ f. eqb (place f n).register i)
          (λ w. whole_needed n (channel w) i (rw w at e))
          (λ w. eq-eqb at i (one_only at i (rw w at e)));
    }
