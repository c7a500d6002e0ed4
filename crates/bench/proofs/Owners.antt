-- The bench's list of 32 owners is its converters' lists of eight, one after the other: an entry read, and an entry set.
use Prim.Native.Nat.{ℕ, zero, suc, ◌+◌, ◌*◌, ◌-◌, ◌<◌}
use mathlib.Core.Path.{◌≡◌, sym, ◌∙◌, ap}
use mathlib.Core.Bool.{true}
use mathlib.Core.List.{List, [], ◌∷◌, ◌++◌, map, flatten}
use native.Mathlib.Omega.{arith}
use borrow.Author.Tests.{leb-true, ne_eqb}
use lib.Dec.{leb}
use lib.ListN.{length, get_or, set, get_or-append}
use lib.Seq.{get_or-append-add, set-append_left}
use Rattle.cases.proofs.Cases.{and_both}
use Rattle.ads1299_registers.specs.Addresses.{channel_count}
use Rattle.parties.specs.Owners.{owner_of}
use Rattle.ads1299.specs.declared.Converter.{Converter}
use Rattle.lines.specs.Lines.{last_channel, converter_of, local_channel}
use Rattle.lines.specs.Ranges.{is_bench_channel}
use Rattle.lines.proofs.Numbering.{below_four}
use Rattle.bench.specs.declared.Bench.{Bench}
use Rattle.bench.specs.Bench.{blank, at, with_converter, bench_owners}
use Rattle.bench.specs.Formed.{FormedBench}
use Rattle.bench.specs.Claims.{OwnerAt}

abbrev owners_of : List Converter → List ℕ
owners_of l = flatten (map (λ (c : Converter). c.owners) l)

-- lists of eight, one after the other
eights : (l : List Converter) → ((k : ℕ) → k < length l → length (get_or l k blank).owners ≡ channel_count) → (k i : ℕ) → k < length l → i < channel_count
    → get_or (owners_of l) (channel_count * k + i) 0 ≡ get_or (get_or l k blank).owners i 0
unfolding flatten
eights [] whole k i hk hi = absurd (omega (arith, hk))
eights (c ∷ l) whole zero i hk hi =
    ap (λ (place : ℕ). get_or (c.owners ++ owners_of l) place 0) (omega arith)
    ∙ get_or-append c.owners (owners_of l) 0 i (omega (arith, whole 0 (omega arith)))
eights (c ∷ l) whole (suc k) i hk hi =
    let size = whole 0 (omega arith) in
    ap (λ (place : ℕ). get_or (c.owners ++ owners_of l) place 0) (omega (arith, size))
    ∙ get_or-append-add c.owners (owners_of l) (channel_count * k + i) 0
    ∙ eights l (λ j lt. whole (suc j) (omega (arith, lt))) k i (omega (arith, hk)) hi

set_append_add : (xs ys : List ℕ) (n a : ℕ) → set (xs ++ ys) (length xs + n) a ≡ xs ++ set ys n a
set_append_add [] ys n a = ap (λ (i : ℕ). set ys i a) (omega arith)
set_append_add (x ∷ xs) ys n a =
    let place : length (x ∷ xs) + n ≡ suc (length xs + n) = omega arith in
    ap (λ (i : ℕ). set (x ∷ (xs ++ ys)) i a) place ∙ ap (λ (rest : List ℕ). x ∷ rest) (set_append_add xs ys n a)

set_eights : (l : List Converter) → ((k : ℕ) → k < length l → length (get_or l k blank).owners ≡ channel_count) → (k i owner : ℕ) → k < length l → i < channel_count
    → (c : Converter) → c.owners ≡ set (get_or l k blank).owners i owner → owners_of (set l k c) ≡ set (owners_of l) (channel_count * k + i) owner
unfolding flatten
set_eights [] whole k i owner hk hi c e = absurd (omega (arith, hk))
set_eights (d ∷ l) whole zero i owner hk hi c e =
    ap (λ (w : List ℕ). w ++ owners_of l) e
    ∙ sym (set-append_left d.owners (owners_of l) i owner (omega (arith, whole 0 (omega arith))))
    ∙ ap (λ (place : ℕ). set (d.owners ++ owners_of l) place owner) (omega arith)
set_eights (d ∷ l) whole (suc k) i owner hk hi c e =
    let size = whole 0 (omega arith) in
    ap (λ (w : List ℕ). d.owners ++ w) (set_eights l (λ j lt. whole (suc j) (omega (arith, lt))) k i owner (omega (arith, hk)) hi c e)
    ∙ sym (set_append_add d.owners (owners_of l) (channel_count * k + i) owner)
    ∙ ap (λ (place : ℕ). set (d.owners ++ owners_of l) place owner) (omega (arith, size))

-- a channel's entry of the 32: its converter's eights before it, and its own place among the eight
record Entry (n : ℕ) : Type 0 where
  place : channel_count * converter_of n + (local_channel n - 1) ≡ n - 1
  own : local_channel n - 1 < channel_count

entry : (n : ℕ) → is_bench_channel n ≡ true → Entry n
unfolding converter_of local_channel
entry n e =
    let t = and_both (leb 1 n) (leb n last_channel) e in
    let low = leb-true 1 n t.0 in
    let high = leb-true n last_channel t.1 in
    let ne = ne_eqb n 0 (λ z. omega arith) in
    record { place = rw (t.1, ne) (omega arith); own = rw (t.1, ne) (omega arith) }

module _ (b : Bench) (f : FormedBench b) (n : ℕ) (e : is_bench_channel n ≡ true) where
  whole : (k : ℕ) → k < length b.converters → length (at b k).owners ≡ channel_count
  whole k lt = (f.each k (rw f.size at lt)).owners.size

  inside : converter_of n < length b.converters
  inside = rw f.size (below_four n)

  read_at : owner_of (bench_owners b) n ≡ owner_of (at b (converter_of n)).owners (local_channel n)
  unfolding owner_of
  read_at =
      ap (λ (j : ℕ). get_or (bench_owners b) j 0) (sym (entry n e).place)
      ∙ eights b.converters whole (converter_of n) (local_channel n - 1) inside (entry n e).own

pub owner_at : OwnerAt
owner_at b f n e = read_at b f n e

-- an entry set in its converter's list is that entry set in the list of 32
pub owner_set : (b : Bench) → FormedBench b → (n owner : ℕ) → is_bench_channel n ≡ true → (c : Converter)
    → c.owners ≡ set (at b (converter_of n)).owners (local_channel n - 1) owner
    → bench_owners (with_converter b (converter_of n) c) ≡ set (bench_owners b) (n - 1) owner
owner_set b f n owner e c q =
    set_eights b.converters (whole b f n e) (converter_of n) (local_channel n - 1) owner (inside b f n e) (entry n e).own c q
    ∙ ap (λ (p : ℕ). set (bench_owners b) p owner) (entry n e).place
