-- What every bench has that the code holds, and a record of the logic need not.
use Rattle.std.specs.Prelude.{ℕ, ◌<◌, ◌≡◌, length}
use Rattle.ads1299.specs.Formed.{Formed}
use Rattle.lines.specs.Lines.{converter_count}
use Rattle.bench.specs.declared.Bench.{Bench}
use Rattle.bench.specs.Bench.{at}

-- there are four converters, each of whole arrays of bytes
pub record FormedBench (b : Bench) : Type 0 where
  pub size : length b.converters ≡ converter_count
  pub each : (k : ℕ) → k < converter_count → Formed (at b k)
