-- A run of bytes on the bench, each with its converter's number. Nothing happens between a byte for one converter and the next for another.
use Rattle.std.specs.Prelude.{ℕ, cond, List, [], ◌∷◌, map, eqb}
use Rattle.bench.specs.declared.Bench.{Bench}
use Rattle.bench.specs.Line.{bench_stepped}

-- gives bytes with the number of the converter that they are for
abbrev pub bytes_for : ℕ → List ℕ → List (ℕ × ℕ)
bytes_for k bytes = map (λ byte. (k, byte)) bytes

-- gives the bytes that are for converter k
unfoldable pub bytes_to : ℕ → List (ℕ × ℕ) → List ℕ
bytes_to k [] = []
bytes_to k (x ∷ bytes) = cond (eqb x.0 k) (x.1 ∷ bytes_to k bytes) (bytes_to k bytes)

-- gives the bench after the bytes, one by one through the byte step
unfoldable pub bench_after : Bench → List (ℕ × ℕ) → Bench
bench_after b [] = b
bench_after b (x ∷ bytes) = bench_after (bench_stepped b x.0 x.1).next bytes

-- gives the refusal numbers that they got
unfoldable pub bench_run_refusals : Bench → List (ℕ × ℕ) → List ℕ
bench_run_refusals b [] = []
bench_run_refusals b (x ∷ bytes) = (bench_stepped b x.0 x.1).refusal ∷ bench_run_refusals (bench_stepped b x.0 x.1).next bytes
