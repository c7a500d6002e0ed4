-- What comes on one converter's lines: a byte, a rise of its select line, a sample.
use Rattle.std.specs.Prelude.{ℕ, Bool, cond, not, List, [], ◌∷◌, ℤ}
use Rattle.refusal.specs.Numbers.{none, wrong_channel, not_converting, bad_sample, invalid_state}
use Rattle.refusal.specs.First.{first_of, accepted}
use Rattle.ads1299.specs.Step.{stepped}
use Rattle.ads1299.specs.Deselect.{deselected}
use Rattle.ads1299.specs.Sample.{running, complete, sampled}
use Rattle.lines.specs.Lines.{is_converter}
use Rattle.bench.specs.declared.Bench.{Bench}
use Rattle.bench.specs.Answers.{BenchStepped, BenchMoved}
use Rattle.bench.specs.Bench.{at, with_converter, valid_bench}

-- the refusals of a byte and of a select rise, in the order in which they are tried
abbrev pub line_refusals : Bench → ℕ → List (Bool × ℕ)
line_refusals b k = (not (valid_bench b), invalid_state) ∷ (not (is_converter k), wrong_channel) ∷ []

-- gives the number that refuses whatever comes for converter k, or 0
unfoldable pub line_refusal : Bench → ℕ → ℕ
line_refusal b k = first_of (line_refusals b k)

-- gives the answer to a byte for converter k
unfoldable pub bench_stepped : Bench → ℕ → ℕ → BenchStepped
bench_stepped b k byte =
    cond (accepted (line_refusal b k))
    (record { refusal = none; out = (stepped (at b k) byte).out; next = with_converter b k (stepped (at b k) byte).next })
    (record { refusal = line_refusal b k; out = 0; next = b })

-- gives an answer that is a refusal number and a bench
abbrev pub bench_moved : ℕ → Bench → BenchMoved
bench_moved refusal b = record { refusal = refusal; next = b }

-- gives the answer to a rise of converter k's select line
unfoldable pub bench_deselected : Bench → ℕ → BenchMoved
bench_deselected b k =
    cond (accepted (line_refusal b k)) (bench_moved none (with_converter b k (deselected (at b k)).next)) (bench_moved (line_refusal b k) b)

-- the refusals of a sample of converter k, in the order in which they are tried: 10 and 11 are that converter's own
abbrev pub bench_sample_refusals : Bench → ℕ → List ℤ → List (Bool × ℕ)
bench_sample_refusals b k codes =
    (not (valid_bench b), invalid_state)
    ∷ (not (is_converter k), wrong_channel)
    ∷ (not (running (at b k)), not_converting)
    ∷ (not (complete codes), bad_sample)
    ∷ []

-- gives the answer to a sample of converter k: that converter's own, where neither 13 nor 5 refuses
unfoldable pub bench_sampled : Bench → ℕ → List ℤ → ℕ → ℕ → BenchMoved
bench_sampled b k codes p n =
    cond (accepted (line_refusal b k))
    (bench_moved (sampled (at b k) codes p n).refusal (with_converter b k (sampled (at b k) codes p n).next))
    (bench_moved (line_refusal b k) b)
