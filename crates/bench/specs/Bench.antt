-- The bench: four converters, each with its eight owners, which together are the bench's 32 (document 02, No. 4).
use Rattle.std.specs.Prelude.{ℕ, Bool, false, get_or, set, None}
use mathlib.Core.List.{List, [], map, flatten}
use Rattle.ads1299_serial.specs.declared.Phase.TheVariants.{Waiting}
use Rattle.ads1299.specs.declared.Converter.{Converter}
use Rattle.ads1299.specs.State.{state}
use Rattle.ads1299.specs.Validity.{valid}
use Rattle.lines.specs.Lines.{every_converter}
use Rattle.bench.specs.declared.Bench.{Bench}

-- what is read at a number that no converter has: it fails 13
abbrev pub blank : Converter
blank = state [] [] [] None false false false [] Waiting

-- gives the converter of a number
abbrev pub at : Bench → ℕ → Converter
at b k = get_or b.converters k blank

-- gives the bench with the converter of a number replaced
abbrev pub with_converter : Bench → ℕ → Converter → Bench
with_converter b k c = record { converters = set b.converters k c }

-- refusal 13 does not apply: it looks at all four
unfoldable pub valid_bench : Bench → Bool
valid_bench b = every_converter (λ k. valid (at b k))

-- gives the bench's 32 owners, channel by channel
abbrev pub bench_owners : Bench → List ℕ
bench_owners b = flatten (map (λ (c : Converter). c.owners) b.converters)
