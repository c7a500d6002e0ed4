-- A session, one request after the other.
use mathlib.Core.Path.{◌≡◌, refl, ap, ◌∙◌}
use mathlib.Core.Bool.{true, false}
use mathlib.Core.List.{List, [], ◌++◌}
use Prim.Native.Nat.{ℕ, zero, suc, ◌-◌, ◌≤◌, ◌<◌}
use native.Mathlib.Omega.{arith}
use borrow.Author.Rules.{part_to_end}
use borrow.Author.Tests.{eq-eqb, ne_eqb, eqb-false}
use lib.Dec.{eqb}
use lib.ListN.{length, take, drop, length-append, length-drop}
use Rattle.cases.proofs.Cases.{split}
use Rattle.ads1299.specs.declared.Converter.{Converter}
use Rattle.console.specs.declared.Turn.{Turn}
use Rattle.console.specs.Turn.{printed, next_state, consumed, turn}
use Rattle.console.specs.Transcript.{lines, session}
use Rattle.console.specs.Claims.{OneByOne}
use Rattle.console.proofs.Turns.{some_consumed, consumed_within}

-- as many requests as there are bytes are enough
enough : (m n : ℕ) (s : Converter) (party : ℕ) (bytes : List ℕ) → length bytes ≤ m → length bytes ≤ n → lines m s party bytes ≡ lines n s party bytes
unfolding lines
enough zero zero s party bytes h k = refl
enough zero (suc n) s party bytes h k = let e : eqb (length bytes) 0 ≡ true = eq-eqb (length bytes) 0 (omega arith) in rw e
enough (suc m) zero s party bytes h k = let e : eqb (length bytes) 0 ≡ true = eq-eqb (length bytes) 0 (omega arith) in rw e
enough (suc m) (suc n) s party bytes h k =
    split (eqb (length bytes) 0)
    (λ a. rw a)
    (λ a.
    let some : 0 < length bytes = omega (arith, eqb-false (length bytes) 0 a) in
    let c = some_consumed bytes some in
    let d = length-drop (consumed bytes) bytes in
    rw a
    (ap (λ (l : List ℕ). printed s party bytes ++ l)
    (enough m n (next_state s party bytes) party (drop (consumed bytes) bytes) (omega arith) (omega arith))))

pub one_by_one : OneByOne
unfolding session lines
one_by_one s party bytes h =
    let a : eqb (length bytes) 0 ≡ false = ne_eqb (length bytes) 0 (λ z. omega arith) in
    let d = length-drop (consumed bytes) bytes in
    enough (length bytes) (suc (length bytes)) s party bytes (omega arith) (omega arith)
    ∙ rw a
    (ap (λ (l : List ℕ). printed s party bytes ++ l)
    (enough (length bytes) (length (drop (consumed bytes) bytes)) (next_state s party bytes) party (drop (consumed bytes) bytes) (omega arith) (omega arith)))

pub no_more : (s : Converter) (party : ℕ) (rest : List ℕ) → length rest ≡ 0 → session s party rest ≡ []
unfolding session lines
no_more s party rest h = enough (length rest) 0 s party rest (omega arith) (omega arith)

-- one turn of the code, and the rest that it goes on with
module _ (s : Converter) (party : ℕ) (rest : List ℕ) (h : 0 < length rest) where
  pub room : length (printed s party rest) ≤ length (session s party rest)
  room = omega (arith, ap length (one_by_one s party rest h), length-append (printed s party rest) (session (next_state s party rest) party (drop (consumed rest) rest)))

  module _ (t : Turn) (et : t ≡ turn s party rest) where
    pub goes_on : (0 < t.used) × (t.used ≤ length rest)
    unfolding turn
    goes_on = rw et (some_consumed rest h, consumed_within rest h)

    pub text : session s party rest ≡ printed s party rest ++ session t.next party (take (length rest - t.used) (drop t.used rest))
    unfolding turn
    text = rw (part_to_end rest t.used, et) (one_by_one s party rest h)
