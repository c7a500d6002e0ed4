-- The transmit buffer (document 01: sheet) after a request for the bench.
use Rattle.std.specs.Prelude.{ℕ, cond, List}
use Rattle.planner.specs.Submission.{Submission}
use Rattle.planner.specs.Buffer.{tx_after}
use Rattle.bench.specs.declared.Bench.{Bench}
use Rattle.bench.specs.Bench.{at, valid_bench}
use Rattle.bench_planner.specs.Local.{target, localised}

-- gives the buffer after a request: as the named converter's planner leaves it, or all as it was where 13 refuses
unfoldable pub bench_tx_after : Bench → Submission → List ℕ → ℕ → List ℕ
bench_tx_after b x tx place = cond (valid_bench b) (tx_after (at b (target x)) (localised x) tx place) tx
