-- Text put after text.
use mathlib.Core.Path.{refl, sym, ◌∙◌}
use mathlib.Core.List.{List, [], ◌++◌}
use Prim.Native.Nat.{ℕ, ◌+◌, ◌≤◌}
use native.Mathlib.Omega.{arith}
use lib.ListN.{length, length-append}
use Rattle.splice.proofs.Splice.{room_after, laid_after, nothing_spliced}
use Rattle.console.specs.declared.Writer.{Writer}
use Rattle.console.specs.Wrote.{Wrote}

pub nothing : (w : Writer) → Wrote w w []
nothing w = record { same = refl; place = omega arith; buffer = sym (nothing_spliced w.buffer.now w.place) }

module _ {before middle : Writer} {first : List ℕ} (p : Wrote before middle first) (second : List ℕ)
    (room : before.place + length (first ++ second) ≤ length before.buffer.now) where
  -- room for both texts is room for the second once the first is put
  pub room_left : middle.place + length second ≤ length middle.buffer.now
  room_left = room_after before.buffer.now before.place first p.place p.buffer (length second) (omega (arith, length-append first second))

  pub both : {after : Writer} → Wrote middle after second → Wrote before after (first ++ second)
  both q =
      record {
        same = q.same ∙ p.same;
        place = omega (arith, p.place, q.place, length-append first second);
        buffer = laid_after before.buffer.now before.place first p.place p.buffer second q.buffer (omega (arith, length-append first second));
      }
