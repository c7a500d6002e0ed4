-- The laws of bytes that are laid over a buffer.
use Prim.Native.Nat.{ℕ, suc, ◌+◌, ◌-◌, ◌≤◌}
use mathlib.Core.Path.{◌≡◌, sym, ap, ◌∙◌}
use mathlib.Core.List.{List, [], ◌∷◌, ◌++◌, append-nil, append_assoc}
use native.Mathlib.Nat.{zero-add, add-zero}
use native.Mathlib.Omega.{arith}
use borrow.Rule.Slice.PartMut.{put_mid}
use lib.ListN.{length, take, drop, set, take-append-drop, length-append, length-drop, drop_of_length-le}
use lib.Seq.{sets, sets-eq, length-sets, length-take-le, take_at, drop_at, take_all, take-length, drop-drop}
use Rattle.splice.specs.Splice.{spliced}
use Rattle.splice.specs.Laws.{FittingLaid, StoresSplice, SplicesJoin, NothingSpliced}

pub fitting_laid : FittingLaid
fitting_laid buffer at bytes h =
    let rest = drop (at + length bytes) buffer in
    let head : length (take at buffer) ≡ at = length-take-le at buffer (omega arith) in
    let split = append_assoc (take at buffer) bytes rest in
    record {
      size = omega (arith, length-append (take at buffer ++ bytes) rest, length-append (take at buffer) bytes, head, length-drop (at + length bytes) buffer);
      found = rw (split, drop_at (take at buffer) (bytes ++ rest) at head) (take_at bytes rest (length bytes) (omega arith));
      before = rw split (take_at (take at buffer) (bytes ++ rest) at head);
      after = drop_at (take at buffer ++ bytes) rest (at + length bytes) (length-append (take at buffer) bytes ∙ rw head);
    }

pub stores_splice : StoresSplice
stores_splice buffer at bytes h = sets-eq bytes buffer at h

-- one list after the other, as stores
sets_append : (xs ys l : List ℕ) (k : ℕ) → sets l k (xs ++ ys) ≡ sets (sets l k xs) (k + length xs) ys
sets_append [] ys l k = let e : k ≡ k + 0 = omega arith in ap (λ (n : ℕ). sets l n ys) e
sets_append (x ∷ xs) ys l k =
    let e : suc k + length xs ≡ k + suc (length xs) = omega arith in
    sets_append xs ys (set l k x) (suc k) ∙ ap (λ (n : ℕ). sets (sets (set l k x) (suc k) xs) n ys) e

pub splices_join : SplicesJoin
splices_join buffer at first second h =
    let one = stores_splice buffer at first (omega arith) in
    let size = length-sets buffer at first in
    let both = length-append first second in
    ap (λ (l : List ℕ). spliced l (at + length first) second) (sym one)
    ∙ sym (stores_splice (sets buffer at first) (at + length first) second (omega arith))
    ∙ sym (sets_append first second buffer at)
    ∙ stores_splice buffer at (first ++ second) (omega arith)

-- bytes laid right after others, in the buffer that those left
module _ (buffer : List ℕ) (at : ℕ) (first : List ℕ) {left : List ℕ} {next : ℕ} (place : next ≡ at + length first) (laid : left ≡ spliced buffer at first) where
  -- room that the buffer has beyond the first is left after them
  pub room_after : (more : ℕ) → at + (length first + more) ≤ length buffer → next + more ≤ length left
  room_after more h = omega (arith, place, ap length laid ∙ (fitting_laid buffer at first (omega arith)).size)

  pub laid_after : (second : List ℕ) {last : List ℕ} → last ≡ spliced left next second → at + (length first + length second) ≤ length buffer
      → last ≡ spliced buffer at (first ++ second)
  laid_after second e h = e ∙ (λ i. spliced (laid i) (place i) second) ∙ splices_join buffer at first second h

pub nothing_spliced : NothingSpliced
nothing_spliced buffer at = rw (add-zero at, append-nil (take at buffer)) (take-append-drop at buffer)

-- what a copy leaves is laid from the start on
pub copied : (source buffer after : List ℕ) → after ≡ take (length source) source ++ drop (length source) buffer → after ≡ spliced buffer 0 source
copied source buffer after e = rw (zero-add (length source)) (rw take-length at e)

-- bytes laid over the start of a part that runs to the end are laid over the whole from the part's place on
pub part_spliced : (at : ℕ) (buffer bytes part : List ℕ) → at + length bytes ≤ length buffer → part ≡ spliced (take (length buffer - at) (drop at buffer)) 0 bytes
    → put_mid at (length buffer - at) buffer part ≡ spliced buffer at bytes
part_spliced at buffer bytes part h e =
    let l = length-drop at buffer in
    let a : take (length buffer - at) (drop at buffer) ≡ drop at buffer = take_all (length buffer - at) (drop at buffer) (omega arith) in
    let b : drop (length buffer - at) (drop at buffer) ≡ [] = drop_of_length-le (drop at buffer) {i = length buffer - at} (omega arith) in
    simp (e, a, b, zero-add, drop-drop, append_assoc) (ap (λ (r : List ℕ). take at buffer ++ (bytes ++ r)) (append-nil (drop (at + length bytes) buffer)))

-- bytes copied to a part that is as long as they are
pub copied_to : (at n : ℕ) (buffer bytes : List ℕ) → n ≡ length bytes → put_mid at n buffer bytes ≡ spliced buffer at bytes
copied_to at n buffer bytes e = rw e (simp (drop-drop, append_assoc) (λ i. take at buffer ++ (bytes ++ drop (at + length bytes) buffer)))
