use Rattle.std.proofs.Common.{rules, ◌∙◌}
use Rattle.std.proofs.lemmas.Result.{MatchResult-weaker}
use Rattle.bench_readings.specs.Reading.{bench_reading}
use Rattle.capi.proofs.BenchAnswered.{bench_reading_through}
use Rattle.capi.proofs.bench_channels.rimevelvet_bench_read_channel.Goals as goal

pub returns : goal.returns
returns c =
    c.from.ensures
    ∙ bench_reading_through c.args.bench (λ b. bench_reading b c.args.number c.args.party c.args.channel c.args.frame.now) c.try_from-given.result c.and_then-reading.result c.try_from-given.ensures
    (MatchResult-weaker c.try_from-given.result c.and_then-reading.ensures (λ b p. search rules) (λ e q. q))
