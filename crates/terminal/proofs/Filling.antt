-- Reads one after the other: what they took of the known bytes, and what of it lies in the buffer.
use Rattle.std.specs.Prelude.{ℕ, ◌+◌, ◌≤◌, List, [], ◌++◌, Option, None, Some, length, take, ◌≡◌}
use Rattle.std.specs.Io.KnownBytes.{Consumes, Keeps}
use Rattle.std.proofs.lemmas.List.{take-take}
use Rattle.std.proofs.lemmas.Slice.{take-put_mid, take-put_mid_below}
use Rattle.std.proofs.Math.Seq.{take-append-add}
use borrow.Rule.Slice.PartMut.{put_mid}
use lib.Seq.{length-take-le}
use mathlib.Core.List.{append_assoc, append-nil}
use mathlib.Core.Path.{refl, sym, ap, ◌∙◌}
use native.Mathlib.Omega.{arith}

pub nothing : (a : Option (List ℕ)) → Consumes a a []
nothing None = tt
nothing (Some l) = refl

joins : (a b c : Option (List ℕ)) (xs ys : List ℕ) → Consumes a b xs → Consumes b c ys → Consumes a c (xs ++ ys)
joins None b c xs ys p q = tt
joins (Some l) None c xs ys p q = absurd p
joins (Some l) (Some m) None xs ys p q = absurd q
joins (Some l) (Some m) (Some r) xs ys p q = p ∙ ap (λ (z : List ℕ). xs ++ z) q ∙ sym (append_assoc xs ys r)

kept : (a b c : Option (List ℕ)) (xs : List ℕ) → Consumes a b xs → Keeps b c → Consumes a c xs
kept None b c xs p k = tt
kept (Some l) None c xs p k = absurd p
kept (Some l) (Some m) None xs p k = absurd k
kept (Some l) (Some m) (Some r) xs p k = p ∙ ap (λ (z : List ℕ). xs ++ z) (sym k)

-- the bytes before a part that was read into, with the first so many of the part
reaches : (at k n : ℕ) (buffer part : List ℕ) → n ≤ length part → at ≤ length buffer
    → take (at + n) (put_mid at k buffer part) ≡ take at buffer ++ take n part
reaches at k n buffer part h f =
    let size : length (take at buffer) ≡ at = length-take-le at buffer f in
    sym (take-take (at + n) (at + length part) (put_mid at k buffer part) (omega arith))
    ∙ ap (take (at + n)) (take-put_mid at k buffer part (at + length part) refl f)
    ∙ ap (λ (m : ℕ). take (m + n) (take at buffer ++ part)) (sym size)
    ∙ take-append-add (take at buffer) part n

module _ (a b c : Option (List ℕ)) (at k : ℕ) (buffer part : List ℕ) (f : at ≤ length buffer) (p : Consumes a b (take at buffer)) where
  pub more : (n : ℕ) → n ≤ length part → Consumes b c (take n part) → Consumes a c (take (at + n) (put_mid at k buffer part))
  more n h q = coe 1 0 (i. Consumes a c (reaches at k n buffer part h f i)) (joins a b c (take at buffer) (take n part) p q)

  pub end : (n : ℕ) → n ≡ 0 → Consumes b c (take n part) → Consumes a c (take at (put_mid at k buffer part))
  end n e q =
      let q' : Consumes b c [] = coe 0 1 (i. Consumes b c (take (e i) part)) q in
      coe 1 0 (i. Consumes a c (take-put_mid_below at k buffer part at (omega arith) f i))
      (coe 0 1 (i. Consumes a c (append-nil (take at buffer) i)) (joins a b c (take at buffer) [] p q'))

  pub failed : Keeps b c → Consumes a c (take at (put_mid at k buffer part))
  failed q = coe 1 0 (i. Consumes a c (take-put_mid_below at k buffer part at (omega arith) f i)) (kept a b c (take at buffer) p q)
