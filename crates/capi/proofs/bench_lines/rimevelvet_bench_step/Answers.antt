use Rattle.std.proofs.Common.{rules, ◌∙◌}
use Rattle.std.proofs.lemmas.Result.{MatchResult-weaker}
use Rattle.bench.specs.Line.{bench_stepped}
use Rattle.capi.proofs.BenchAnswered.{bench_step_through}
use Rattle.capi.proofs.bench_lines.rimevelvet_bench_step.Goals as goal

pub returns : goal.returns
returns c =
    c.stepped.ensures
    ∙ bench_step_through c.args.bench (search rules) (λ b. bench_stepped b c.args.number c.args.byte) c.try_from.result c.and_then-stepped.result c.try_from.ensures
    (MatchResult-weaker c.try_from.result c.and_then-stepped.ensures (λ b p. search rules) (λ e q. q))
