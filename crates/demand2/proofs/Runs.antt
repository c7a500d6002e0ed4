-- Runs of registers, byte by byte through the byte step: where they lead.
use Rattle.std.specs.Prelude.{Option, None}
use Prim.Native.Nat.{ℕ, zero, suc, ◌+◌, ◌<◌, ◌≤◌}
use mathlib.Core.Path.{◌≡◌, refl, sym, ◌∙◌, ap}
use mathlib.Core.Bool.{Bool, true, false, cond, ◌&&◌}
use mathlib.Core.List.{List, [], ◌∷◌}
use native.Mathlib.Omega.{arith}
use borrow.Author.Tests.{lt-ltb, le-ltb, le-leb, lt-leb, eqb-true, eqb-false, leb-true, leb-false, ltb-true}
use lib.Dec.{eqb, leb, ltb}
use lib.ListN.{length, get_or, length-set}
use lib.Seq.{get_or-set_same, get_or-set_other, ext_get_or}
use Rattle.cases.specs.Every.{every}
use Rattle.cases.proofs.Cases.{split, and_both}
use Rattle.bits.specs.Fields.{masked}
use Rattle.ads1299_registers.specs.Addresses.{register_count}
use Rattle.ads1299_registers.specs.Table.{masks}
use Rattle.ads1299_serial.specs.declared.Phase.{Phase}
use Rattle.ads1299_serial.specs.declared.Phase.TheVariants.{Waiting, Held, Counting}
use Rattle.ads1299_serial.specs.declared.Direction.TheVariants.{Write}
use Rattle.ads1299_serial.specs.Transfers.{transfer, begun, remainder}
use Rattle.ads1299_commands.specs.Opcodes.{WREG}
use Rattle.ads1299_commands.specs.Commands.{acts}
use Rattle.ads1299.specs.declared.Converter.{Converter}
use Rattle.ads1299.specs.State.{state}
use Rattle.ads1299.specs.Registers.{written}
use Rattle.ads1299.specs.Output.{emptied}
use Rattle.ads1299.specs.Validity.{valid}
use Rattle.ads1299.specs.Step.{effect, commanded, counted, followed, stepped}
use Rattle.ads1299.specs.Run.{after}
use Rattle.ads1299.proofs.ValidState.{parts}
use Rattle.ads1299.proofs.StaysValid.{next_is, stays_valid}
use Rattle.planner.specs.Runs.{Run, registers_from, writing, writing_all, in_run, in_runs}
use Rattle.planner.proofs.Runs.{registers_length}
use Rattle.demand2.proofs.Modes.{after_append, after_valid, decoded_write}

-- gives the registers after masked writes from an address on
unfoldable pub written_from : List ℕ → ℕ → List ℕ → List ℕ
written_from l a [] = l
written_from l a (d ∷ bytes) = written_from (written l a d) (a + 1) bytes

module _ (w t : List ℕ) (v : Bool) (f : List ℕ) where
  abbrev at : List ℕ → Phase → Converter
  at r p = state r w t None false false v f p

  -- the data bytes, one by one
  counts : (bytes : List ℕ) (d a : ℕ) (r : List ℕ) → valid (at r (Counting (transfer Write a (length bytes + 1)))) ≡ true
      → after (at r (Counting (transfer Write a (length bytes + 1)))) (d ∷ bytes) ≡ at (written_from r a (d ∷ bytes)) Waiting
  unfolding after followed counted remainder written_from
  counts [] d a r e = next_is (at r (Counting (transfer Write a 1))) d e
  counts (g ∷ bytes) d a r e =
      let s = at r (Counting (transfer Write a (length (g ∷ bytes) + 1))) in
      let one : (stepped s d).next ≡ at (written r a d) (Counting (transfer Write (a + 1) (length bytes + 1))) =
      next_is s d e ∙ rw (lt-ltb 1 (length (g ∷ bytes) + 1) (omega arith), (parts s e).phase) (ap (λ (n : ℕ). at (written r a d) (Counting (transfer Write (a + 1) n))) (omega arith)) in
      ap (λ (u : Converter). after u (g ∷ bytes)) one
      ∙ counts bytes g (a + 1) (written r a d) (rw one at ((stays_valid s e).by_byte d))

  -- a whole command, from a state that waits
  writes : (o : Option ℕ) (a d : ℕ) (bytes r : List ℕ) → valid (state r w t o false false v f Waiting) ≡ true → a < register_count → length bytes ≤ 31
      → after (state r w t o false false v f Waiting) ((WREG + a) ∷ length bytes ∷ d ∷ bytes) ≡ at (written_from r a (d ∷ bytes)) Waiting
  unfolding after followed commanded acts effect emptied begun
  writes o a d bytes r e h small =
      let s = state r w t o false false v f Waiting in
      let first : (stepped s (WREG + a)).next ≡ at r (Held (transfer Write a 0)) = next_is s (WREG + a) e ∙ rw (decoded_write a h) in
      let held = rw first at ((stays_valid s e).by_byte (WREG + a)) in
      let second : (stepped (at r (Held (transfer Write a 0))) (length bytes)).next ≡ at r (Counting (transfer Write a (length bytes + 1))) =
      next_is (at r (Held (transfer Write a 0))) (length bytes) held ∙ rw (le-leb (length bytes) 31 small) in
      let counting = rw second at ((stays_valid (at r (Held (transfer Write a 0))) held).by_byte (length bytes)) in
      ap (λ (x : Converter). after x (length bytes ∷ d ∷ bytes)) first
      ∙ ap (λ (x : Converter). after x (d ∷ bytes)) second
      ∙ counts bytes d a r counting

-- one masked write, read
written_length : (l : List ℕ) (a d : ℕ) → length (written l a d) ≡ length l
unfolding written
written_length l a d = split (ltb a register_count) (λ e. rw e (length-set l a _)) (λ e. rw e)

written_same : (l : List ℕ) (a d : ℕ) → length l ≡ register_count → a < register_count → get_or (written l a d) a 0 ≡ masked (get_or l a 0) (get_or masks a 0) d
unfolding written
written_same l a d n h = rw (lt-ltb a register_count h) (get_or-set_same l a (masked (get_or l a 0) (get_or masks a 0) d) 0 (omega arith))

written_other : (l : List ℕ) (a d i : ℕ) → (i ≡ a → ⊥) → get_or (written l a d) i 0 ≡ get_or l i 0
unfolding written
written_other l a d i ne =
    split (ltb a register_count) (λ e. rw e (get_or-set_other l a i (masked (get_or l a 0) (get_or masks a 0) d) 0 ne)) (λ e. rw e)

-- from registers l, writes of the runs lead to m: every register of m passes its mask over l and over itself, and what no run has is so already
pub record Leads (l m : List ℕ) (runs : List Run) : Type 0 where
  pub size : length l ≡ register_count
  pub passes : (i : ℕ) → masked (get_or l i 0) (get_or masks i 0) (get_or m i 0) ≡ get_or m i 0
  pub stays : (i : ℕ) → masked (get_or m i 0) (get_or masks i 0) (get_or m i 0) ≡ get_or m i 0
  pub rest : (i : ℕ) → in_runs runs i ≡ false → get_or l i 0 ≡ get_or m i 0

module _ (m : List ℕ) (new_size : length m ≡ register_count) where
  -- a run, read
  run_length : (k a : ℕ) (l : List ℕ) → length (written_from l a (registers_from m a k)) ≡ length l
  unfolding written_from registers_from
  run_length zero a l = refl
  run_length (suc k) a l = run_length k (a + 1) (written l a (get_or m a 0)) ∙ written_length l a (get_or m a 0)

  run_reads : (k a : ℕ) (l : List ℕ) → length l ≡ register_count → a + k ≤ register_count → (i : ℕ)
      → get_or (written_from l a (registers_from m a k)) i 0
      ≡ cond (leb a i && ltb i (a + k)) (masked (get_or l i 0) (get_or masks i 0) (get_or m i 0)) (get_or l i 0)
  unfolding written_from registers_from
  run_reads zero a l n h i = split (leb a i) (λ e. rw (e, le-ltb i (a + 0) (let g = leb-true a i e in omega arith))) (λ e. rw e)
  run_reads (suc k) a l n h i =
      run_reads k (a + 1) (written l a (get_or m a 0)) (written_length l a (get_or m a 0) ∙ n) (omega arith) i
      ∙ split (eqb i a)
      (λ q.
      let z = eqb-true i a q in
      rw (z, lt-leb (a + 1) a (omega arith), le-leb a a (omega arith), lt-ltb a (a + suc k) (omega arith)) (written_same l a (get_or m a 0) n (omega arith)))
      (λ q.
      let ne = eqb-false i a q in
      let sum : a + 1 + k ≡ a + suc k = omega arith in
      let low : leb (a + 1) i ≡ leb a i = split (leb a i) (λ e. rw e (le-leb (a + 1) i (let g = leb-true a i e in omega (arith, ne)))) (λ e. rw e (lt-leb (a + 1) i (let g = leb-false a i e in omega arith))) in
      rw (written_other l a (get_or m a 0) i ne, sum, low))

  leads_next : (l : List ℕ) (x : Run) (runs : List Run) → x.first + x.further < register_count → Leads l m (x ∷ runs)
      → Leads (written_from l x.first (registers_from m x.first (suc x.further))) m runs
  leads_next l x runs h e =
      let reads = run_reads (suc x.further) x.first l e.size (omega arith) in
      record {
        size = run_length (suc x.further) x.first l ∙ e.size;
        passes = λ i. split (in_run i x) (λ q. rw (reads i, q, e.passes i) (e.stays i)) (λ q. rw (reads i, q) (e.passes i));
        stays = e.stays;
        rest = λ i z. split (in_run i x) (λ q. rw (reads i, q) (e.passes i)) (λ q. rw (reads i, q) (e.rest i (rw q z)));
      }

  module _ (w t : List ℕ) (v : Bool) (f : List ℕ) where
    one_run : (o : Option ℕ) (x : Run) (l : List ℕ) → x.first + x.further < register_count → valid (state l w t o false false v f Waiting) ≡ true
        → after (state l w t o false false v f Waiting) (writing m x) ≡ at w t v f (written_from l x.first (registers_from m x.first (suc x.further))) Waiting
    unfolding registers_from
    one_run o x l h e =
        let a = x.first in
        let bytes = registers_from m (a + 1) x.further in
        ap (λ (j : ℕ). after (state l w t o false false v f Waiting) ((WREG + a) ∷ j ∷ get_or m a 0 ∷ bytes)) (sym (registers_length m (a + 1) x.further))
        ∙ writes w t v f o a (get_or m a 0) bytes l e (omega arith) (omega (arith, registers_length m (a + 1) x.further))

    -- every run, the first with output pending or not
    pub sent_runs : (runs : List Run) (o : Option ℕ) (x : Run) (l : List ℕ) → every (λ (y : Run). ltb (y.first + y.further) register_count) (x ∷ runs) ≡ true
        → Leads l m (x ∷ runs) → valid (state l w t o false false v f Waiting) ≡ true
        → after (state l w t o false false v f Waiting) (writing_all m (x ∷ runs)) ≡ at w t v f m Waiting
    unfolding writing_all after
    sent_runs [] o x l h e z =
        let inside = ltb-true _ _ (and_both (ltb (x.first + x.further) register_count) true h).0 in
        let ends = leads_next l x [] inside e in
        after_append (writing m x) (state l w t o false false v f Waiting) [] ∙ one_run o x l inside z
        ∙ ap (λ (r : List ℕ). at w t v f r Waiting) (ext_get_or 0 _ m (ends.size ∙ sym new_size) (λ i lt. ends.rest i refl))
    sent_runs (next ∷ runs) o x l h e z =
        let b = and_both (ltb (x.first + x.further) register_count) (every (λ (y : Run). ltb (y.first + y.further) register_count) (next ∷ runs)) h in
        let inside = ltb-true _ _ b.0 in
        let s = state l w t o false false v f Waiting in
        let one = one_run o x l inside z in
        after_append (writing m x) s (writing_all m (next ∷ runs))
        ∙ ap (λ (u : Converter). after u (writing_all m (next ∷ runs))) one
        ∙ sent_runs runs None next (written_from l x.first (registers_from m x.first (suc x.further))) b.1 (leads_next l x (next ∷ runs) inside e)
        (rw one at (after_valid (writing m x) s z))
