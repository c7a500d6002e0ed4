use Rattle.std.proofs.Common.{rules, ◌∙◌}
use Rattle.std.proofs.lemmas.Result.{MatchResult-weaker}
use Rattle.bench.specs.Line.{bench_deselected}
use Rattle.capi.proofs.BenchAnswered.{bench_moved_through}
use Rattle.capi.proofs.bench_lines.rimevelvet_bench_deselect.Goals as goal

pub returns : goal.returns
returns c =
    c.moved.ensures
    ∙ bench_moved_through c.args.bench (search rules) (λ b. bench_deselected b c.args.number) c.try_from.result c.and_then-risen.result c.try_from.ensures
    (MatchResult-weaker c.try_from.result c.and_then-risen.ensures (λ b p. search rules) (λ e q. q))
