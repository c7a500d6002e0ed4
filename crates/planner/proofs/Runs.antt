-- Runs of registers, and the bytes that write them.
use Prim.Native.Nat.{ℕ, zero, suc, ◌+◌, ◌-◌, ◌<◌, ◌≤◌}
use mathlib.Core.Path.{◌≡◌, refl, sym, ◌∙◌, ap}
use mathlib.Core.Bool.{true}
use mathlib.Core.List.{List, [], ◌∷◌}
use native.Mathlib.Omega.{arith}
use native.Mathlib.Numerals.{add-one}
use borrow.Author.Tests.{le-leb, lt-ltb}
use lib.ListN.{length, get_or, take, drop, length-append}
use lib.Seq.{drop-cons}
use Rattle.cases.proofs.Cases.{split}
use Rattle.planner.specs.Runs.{Run, registers_from, writing, writing_all, runs_length, in_run, in_runs}

pub registers_length : (registers : List ℕ) (first count : ℕ) → length (registers_from registers first count) ≡ count
unfolding registers_from
registers_length registers first zero = refl
registers_length registers first (suc more) = ap (λ (n : ℕ). suc n) (registers_length registers (first + 1) more)

pub writing_length : (registers : List ℕ) (x : Run) → length (writing registers x) ≡ 3 + x.further
writing_length registers x = omega (arith, registers_length registers x.first (suc x.further))

pub all_length : (registers : List ℕ) (all : List Run) → length (writing_all registers all) ≡ runs_length all
unfolding writing_all runs_length
all_length registers [] = refl
all_length registers (x ∷ rest) =
    length-append (writing registers x) (writing_all registers rest) ∙ omega (arith, writing_length registers x, all_length registers rest)

-- registers within the list are a part of it
pub registers_part : (registers : List ℕ) (count first : ℕ) → first + count ≤ length registers → registers_from registers first count ≡ take count (drop first registers)
unfolding registers_from
registers_part registers zero first h = refl
registers_part registers (suc more) first h =
    rw (drop-cons registers first 0 (omega arith)) (ap (λ (l : List ℕ). get_or registers first 0 ∷ l) (registers_part registers more (first + 1) (omega arith) ∙ rw add-one))

-- the part of the registers that the code takes for a run
pub part_registers : (registers : List ℕ) (first further : ℕ) → first + further < length registers
    → take (first + further + 1 - first) (drop first registers) ≡ registers_from registers first (suc further)
part_registers registers first further h =
    let e : first + further + 1 - first ≡ suc further = omega arith in
    ap (λ (n : ℕ). take n (drop first registers)) e ∙ sym (registers_part registers (suc further) first (omega arith))

-- registers that agree in every run are written alike
registers_alike : (l m : List ℕ) (count first : ℕ) → ((i : ℕ) → first ≤ i → i < first + count → get_or l i 0 ≡ get_or m i 0) → registers_from l first count ≡ registers_from m first count
unfolding registers_from
registers_alike l m zero first h = refl
registers_alike l m (suc more) first h =
    rw (h first (omega arith) (omega arith), registers_alike l m more (first + 1) (λ i lo hi. h i (omega arith) (omega arith)))

pub same_writing : (l m : List ℕ) (all : List Run) → ((i : ℕ) → in_runs all i ≡ true → get_or l i 0 ≡ get_or m i 0) → writing_all l all ≡ writing_all m all
unfolding writing_all
same_writing l m [] h = refl
same_writing l m (x ∷ rest) h =
    let first = registers_alike l m (suc x.further) x.first
    (λ i lo hi. h i (rw (le-leb x.first i lo, lt-ltb i (x.first + suc x.further) hi))) in
    let others = same_writing l m rest (λ i e. h i (split (in_run i x) (λ q. rw q) (λ q. rw (q, e)))) in
    rw (first, others)
