use Rattle.std.proofs.Common.{rules, ◌∙◌}
use Rattle.std.proofs.lemmas.Result.{MatchResult-weaker}
use Rattle.capi.specs.BenchAnswers.{bench_part}
use Rattle.capi.proofs.BenchAnswered.{bench_part_through}
use Rattle.capi.proofs.bench_channels.rimevelvet_bench_channel_bytes.Goals as goal

pub returns : goal.returns
returns c =
    c.from.ensures
    ∙ bench_part_through c.args.bench (λ b. bench_part b c.args.number c.args.party c.args.channel c.args.frame.now) c.try_from-given.result c.and_then-part.result c.try_from-given.ensures
    (MatchResult-weaker c.try_from-given.result c.and_then-part.ensures (λ b p. search rules) (λ e q. q))
