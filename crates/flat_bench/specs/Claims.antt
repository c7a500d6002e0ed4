-- What is claimed of the flat form of a bench beyond the contracts.
use Rattle.std.specs.Prelude.{◌≡◌, true, length, Ok}
use Rattle.lines.specs.Lines.{converter_count}
use Rattle.bench.specs.declared.Bench.{Bench}
use Rattle.flat_bench.specs.declared.FlatBench.{FlatBench}
use Rattle.flat_bench.specs.Flat.{flat_bench, is_bench, bench_of, bench_in}

-- Benches and the flat forms that stand for one match one to one, four converters being on each: the way there and back loses nothing, from either side.
pub record RoundTrip : Type 0 where
  pub stands : (b : Bench) → is_bench (flat_bench b) ≡ true
  pub returns : (b : Bench) → length b.converters ≡ converter_count → bench_of (flat_bench b) ≡ b
  pub returns_flat : (f : FlatBench) → length f.converters ≡ converter_count → is_bench f ≡ true → flat_bench (bench_of f) ≡ f

-- Every bench's flat form is taken, and gives that bench.
abbrev pub ComesBack : Type 0
ComesBack = (b : Bench) → length b.converters ≡ converter_count → bench_in (flat_bench b) ≡ Ok b
