-- Any two merges of the parties' lists agree on the bench: cell by cell, as on one converter.
use Prim.Native.Nat.{ℕ, ◌<◌}
use mathlib.Core.Path.{◌≡◌, refl, sym, ◌∙◌, ap}
use mathlib.Core.Bool.{true, false, ◌&&◌}
use mathlib.Core.List.{List, [], ◌∷◌}
use borrow.Author.Tests.{eq-eqb}
use lib.Dec.{eqb}
use lib.Seq.{ext_get_or}
use Rattle.cases.proofs.Cases.{split, and_both}
use Rattle.refusal.specs.First.{accepted}
use Rattle.ads1299.specs.declared.Converter.{Converter}
use Rattle.ads1299_fields.specs.Names.{is_field, named}
use Rattle.ads1299_settings.proofs.Registers.{same_registers}
use Rattle.planner.specs.Submission.{Submission}
use Rattle.planner.specs.Refusals.{field_owner}
use Rattle.isolation.specs.Merges.{Lists, Merge, from, answers_to}
use Rattle.isolation.proofs.Own.{same_bit}
use Rattle.lines.specs.Lines.{converter_count, converter_of, local_channel}
use Rattle.lines.specs.Ranges.{names}
use Rattle.lines.proofs.Numbering.{below_four}
use Rattle.bench.specs.declared.Bench.{Bench}
use Rattle.bench.specs.Bench.{blank, at, bench_owners}
use Rattle.bench.specs.Formed.{FormedBench}
use Rattle.bench_planner.specs.Planned.{bench_planned}
use Rattle.bench_planner.specs.Fields.{takes_number, bench_named, bench_field}
use Rattle.bench_planner.proofs.Worded.{here, owner_is}
use Rattle.bench_isolation.specs.Reference.{reference_numbers, reference_cells}
use Rattle.bench_isolation.specs.Lists.{numbers, end, touched}
use Rattle.bench_isolation.specs.Merges.{last_accepted}
use Rattle.bench_isolation.specs.Demand3.{MergesAgree}
use Rattle.bench_planner.proofs.Channels.{low, named_local, back}
use Rattle.bench_isolation.proofs.Held.{HeldBench, held_first}
use Rattle.bench_isolation.proofs.OneList.{next_bench, held_end, follows_reference}
use Rattle.bench_isolation.proofs.Own.{SameOwn, own_cells, own_numbers, cell_last}
use Rattle.bench_isolation.proofs.Plans.{made, both_made}

-- whether a request that names converter k was accepted, by the parties' numbers
module _ (k : ℕ) where
  touched_none : (l : List Submission) → touched k l [] ≡ false
  unfolding touched
  touched_none [] = refl
  touched_none (x ∷ l) = refl

  touched_from : (p : ℕ) (l : List Submission) (ns : List ℕ) → touched k (from p l) (answers_to p l ns) ≡ true → touched k l ns ≡ true
  unfolding touched from answers_to
  touched_from p [] ns e = e
  touched_from p (x ∷ l) [] e = split (eqb x.party p) (λ q. rw q at e) (λ q. sym (touched_none (from p l)) ∙ rw q at e)
  touched_from p (x ∷ l) (n ∷ ns) e =
      let ih = touched_from p l ns in
      split (names k x.request.channel && accepted n)
      (λ a. rw a) (λ a. rw a (split (eqb x.party p) (λ q. ih (rw (q, a) at e)) (λ q. ih (rw q at e))))

  some_party : (l : List Submission) (b : Bench) → touched k l (numbers b l) ≡ true
      → (p : ℕ) × (touched k (from p l) (answers_to p l (numbers b l)) ≡ true)
  unfolding touched from answers_to numbers
  some_party [] b e = (0, e)
  some_party (x ∷ l) b e =
      let ih = some_party l (next_bench b x) in
      split (names k x.request.channel && accepted (bench_planned b x).refusal)
      (λ a. (x.party, rw (eq-eqb x.party x.party refl, a)))
      (λ a.
      let w = ih (rw a at e) in
      (w.0, split (eqb x.party w.0) (λ q. rw (q, a) w.1) (λ q. rw q w.1)))

module _ (b : Bench) (h : FormedBench b) (lists : Lists) where
  held : (l : List Submission) → HeldBench b (end b l) (reference_cells b l)
  held l = held_end b h l b (bench_field b) (held_first b h)

  first_same : (p : ℕ) → SameOwn b p (bench_field b) (bench_field b)
  first_same p k lt f n name own = refl

  numbers_of : (l : List Submission) → Merge lists l → (p : ℕ) → answers_to p l (numbers b l) ≡ reference_numbers b (lists p)
  numbers_of l m p =
      rw (follows_reference b h l).reference_numbers_lem (own_numbers b h p l (bench_field b) (bench_field b) (first_same p) ∙ rw (m p))

  -- a cell of converter k, and by its number on the bench
  cell_here : (l : List Submission) → Merge lists l → (k : ℕ) → k < converter_count → (f n : ℕ) → named f n ≡ true
      → here k (reference_cells b l) f n ≡ here k (reference_cells b (lists (field_owner (at b k).owners f n))) f n
  cell_here l m k lt f n name =
      let p = field_owner (at b k).owners f n in
      own_cells b h p l (bench_field b) (bench_field b) (first_same p) k lt f n name refl ∙ rw (m p)

  cell_of : (l : List Submission) → Merge lists l → (f n : ℕ) → bench_named f n ≡ true
      → reference_cells b l f n ≡ reference_cells b (lists (field_owner (bench_owners b) f n)) f n
  unfolding bench_named
  cell_of l m f n e =
      let name = named_local f n ∙ e in
      rw (back n (low f (local_channel n) name), owner_is b h f n (and_both (is_field f) (takes_number f n) e).1) at
      (cell_here l m (converter_of n) (below_four n) f (local_channel n) name)

  module _ (l m : List Submission) (ml : Merge lists l) (mm : Merge lists m) where
    same_numbers : (p : ℕ) → answers_to p l (numbers b l) ≡ answers_to p m (numbers b m)
    same_numbers p = numbers_of l ml p ∙ sym (numbers_of m mm p)

    -- every bit of every converter has one owner
    registers_same : (k : ℕ) → k < converter_count → (at (end b l) k).registers ≡ (at (end b m) k).registers
    registers_same k lt =
        let x = (held l).each k lt in
        let y = (held m).each k lt in
        same_registers (at (end b l) k).registers (at (end b m) k).registers (x.formed.registers.size ∙ sym y.formed.registers.size)
        x.formed.registers.bytes y.formed.registers.bytes
        (λ r i. same_bit (at b k) (at (end b l) k) (at (end b m) k) (here k (reference_cells b l)) (here k (reference_cells b m)) x y r i
        (λ f n name inside. cell_here l ml k lt f n name ∙ sym (cell_here m mm k lt f n name)))

    also_touched : (k : ℕ) → touched k l (numbers b l) ≡ true → touched k m (numbers b m) ≡ true
    also_touched k e =
        let w = some_party k l b e in
        touched_from k w.0 m (numbers b m) (rw (ml w.0 ∙ sym (mm w.0), same_numbers w.0) at w.1)

  touched_same : (l m : List Submission) → Merge lists l → Merge lists m → (k : ℕ) → touched k l (numbers b l) ≡ touched k m (numbers b m)
  touched_same l m ml mm k =
      split (touched k l (numbers b l))
      (λ a. a ∙ sym (also_touched l m ml mm k a))
      (λ a. split (touched k m (numbers b m)) (λ e. also_touched m l mm ml k e ∙ sym e) (λ e. a ∙ sym e))

  end_same : (l m : List Submission) → Merge lists l → Merge lists m → end b l ≡ end b m
  end_same l m ml mm =
      ap (λ (c : List Converter). record { converters = c })
      (ext_get_or blank (end b l).converters (end b m).converters ((held l).size ∙ sym (held m).size)
      (λ k lt.
      let four = rw (held l).size at lt in
      (follows_reference b h l).all_else k four
      ∙ rw (registers_same l m ml mm k four, touched_same l m ml mm k) (sym ((follows_reference b h m).all_else k four))))

pub merges_agree : MergesAgree
unfolding last_accepted
merges_agree b h lists l m ml mm =
    let first = held_first b h in
    let numbers_are = numbers_of b h lists l ml in
    let same = first_same b h lists in
    let cell : (f n : ℕ) → bench_named f n ≡ true → bench_field (end b l) f n ≡ reference_cells b (lists (field_owner (bench_owners b) f n)) f n =
    λ f n name. (follows_reference b h l).fields f n name ∙ cell_of b h lists l ml f n name in
    record {
      same_numbers = same_numbers b h lists l m ml mm;
      own_numbers = numbers_are;
      same_end = end_same b h lists l m ml mm;
      owners_last = λ f n name.
          let p = field_owner (bench_owners b) f n in
          cell f n name ∙ rw (numbers_are p) (cell_last b (lists p) (bench_field b) f n);
      owners_cell = cell;
      same_plans = λ p.
          rw (numbers_are p)
          (both_made b h p (rw (ml p) at (made b h p l b (bench_field b) (bench_field b) first (same p)))
          (rw (mm p) at (made b h p m b (bench_field b) (bench_field b) first (same p))));
    }
