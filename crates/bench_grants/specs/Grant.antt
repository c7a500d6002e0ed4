-- A grant on the bench: the administrator moves one of its 32 channels to another owner.
use Rattle.std.specs.Prelude.{ℕ, Bool, cond, not, List, [], ◌∷◌}
use Rattle.refusal.specs.Numbers.{unknown_party, wrong_channel, not_owner, invalid_state}
use Rattle.parties.specs.Parties.{known_party, is_admin}
use Rattle.grants.specs.Grant.{granted}
use Rattle.lines.specs.Lines.{converter_of, local_channel}
use Rattle.lines.specs.Ranges.{is_bench_channel}
use Rattle.bench.specs.declared.Bench.{Bench}
use Rattle.bench.specs.Answers.{BenchMoved}
use Rattle.bench.specs.Bench.{at, with_converter, valid_bench}
use Rattle.bench.specs.Line.{bench_moved}

-- gives the answer to a grant: that of the converter which has the channel, where 13 does not refuse
unfoldable pub bench_granted : Bench → ℕ → ℕ → ℕ → BenchMoved
bench_granted b caller receiver n =
    cond (valid_bench b)
    (bench_moved (granted (at b (converter_of n)) caller receiver (local_channel n)).refusal
    (with_converter b (converter_of n) (granted (at b (converter_of n)) caller receiver (local_channel n)).next))
    (bench_moved invalid_state b)

-- the refusals of a grant as document 02, No. 4 words them, in the order in which they are tried
abbrev pub bench_grant_refusals : Bench → ℕ → ℕ → ℕ → List (Bool × ℕ)
bench_grant_refusals b caller receiver n =
    (not (valid_bench b), invalid_state)
    ∷ (not (known_party caller), unknown_party)
    ∷ (not (known_party receiver), unknown_party)
    ∷ (not (is_bench_channel n), wrong_channel)
    ∷ (not (is_admin caller), not_owner)
    ∷ []
