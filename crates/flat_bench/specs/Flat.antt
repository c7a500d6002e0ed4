-- The flat form of a bench: its converters' flat forms, in the order of their numbers.
use Rattle.std.specs.Prelude.{ℕ, Bool, cond, [], map, get_or, Result, Ok, Err}
use Rattle.refusal.specs.declared.Refusal.{Refusal}
use Rattle.refusal.specs.declared.Refusal.TheVariants.{InvalidState}
use Rattle.flat.specs.declared.FlatConverter.{FlatConverter}
use Rattle.flat.specs.Flat.{flat}
use Rattle.flat.specs.States.{is_state, state_of}
use Rattle.lines.specs.Lines.{converter_numbers, every_converter}
use Rattle.bench.specs.declared.Bench.{Bench}
use Rattle.bench.specs.Bench.{at}
use Rattle.flat_bench.specs.declared.FlatBench.{FlatBench}

-- what is read at a number that no converter has
abbrev pub blank_flat : FlatConverter
blank_flat =
    record {
      registers = [];
      owners = [];
      latest = [];
      output = 0;
      place = 0;
      continuous = 0;
      standby = 0;
      converting = 0;
      shifting = [];
      phase = 0;
      direction = 0;
      address = 0;
      remaining = 0;
    }

-- gives the flat form of the converter of a number
abbrev pub flat_at : FlatBench → ℕ → FlatConverter
flat_at f k = get_or f.converters k blank_flat

-- gives a bench's flat form
unfoldable pub flat_bench : Bench → FlatBench
flat_bench b = record { converters = map (λ k. flat (at b k)) converter_numbers }

-- tells whether every converter's flat form stands for a state
unfoldable pub is_bench : FlatBench → Bool
is_bench f = every_converter (λ k. is_state (flat_at f k))

-- gives the bench that a flat form stands for; asked only where it stands for one
unfoldable pub bench_of : FlatBench → Bench
bench_of f = record { converters = map (λ k. state_of (flat_at f k)) converter_numbers }

-- gives the bench that a flat form stands for; where it stands for none, refusal 13
unfoldable pub bench_in : FlatBench → Result Bench Refusal
bench_in f = cond (is_bench f) (Ok (bench_of f)) (Err InvalidState)
