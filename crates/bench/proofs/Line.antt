-- What it tells that nothing refuses what comes for a converter.
use Prim.Native.Nat.{ℕ, ◌<◌}
use mathlib.Core.Path.{◌≡◌, refl}
use mathlib.Core.Bool.{true}
use borrow.Author.Tests.{ltb-true, not-false}
use lib.Dec.{ltb}
use Rattle.refusal.specs.Numbers.{none}
use Rattle.refusal.proofs.First.{exact}
use Rattle.lines.specs.Lines.{converter_count}
use Rattle.bench.specs.declared.Bench.{Bench}
use Rattle.bench.specs.Bench.{valid_bench}
use Rattle.bench.specs.Line.{line_refusals, line_refusal}

pub record Clear (b : Bench) (k : ℕ) : Type 0 where
  pub state : valid_bench b ≡ true
  pub number : k < converter_count

pub clear : (b : Bench) (k : ℕ) → line_refusal b k ≡ none → Clear b k
unfolding line_refusal
clear b k e =
    let c = (exact (line_refusals b k) refl).refuses e in
    record { state = not-false (valid_bench b) c.0; number = ltb-true k converter_count (not-false (ltb k converter_count) c.1.0) }
