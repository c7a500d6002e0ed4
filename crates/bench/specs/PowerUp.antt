-- Power-up of a bench: each converter by its own rule, or none of the IDs kept.
use Rattle.std.specs.Prelude.{ℕ, Bool, cond, List, map, get_or, replicate}
use Rattle.refusal.specs.Numbers.{none, invalid_state}
use Rattle.ads1299.specs.PowerUp.{valid_id, powered_up}
use Rattle.lines.specs.Lines.{converter_count, converter_numbers, every_converter}
use Rattle.bench.specs.declared.Bench.{Bench}
use Rattle.bench.specs.Answers.{BenchPoweredUp}

-- every ID is an ADS1299's
unfoldable pub valid_ids : List ℕ → Bool
valid_ids ids = every_converter (λ k. valid_id (get_or ids k 0))

-- gives the bench of which each converter is as its power-up gives it
unfoldable pub started : List ℕ → Bench
started ids = record { converters = map (λ k. (powered_up (get_or ids k 0)).converter) converter_numbers }

-- gives the answer of power-up: with a bad ID among them, every converter is as its own power-up gives it for ID 0
unfoldable pub bench_powered_up : List ℕ → BenchPoweredUp
bench_powered_up ids =
    cond (valid_ids ids)
    (record { refusal = none; bench = started ids })
    (record { refusal = invalid_state; bench = started (replicate converter_count 0) })
