use Rattle.std.proofs.Common.{rules, ◌∙◌}
use Rattle.std.proofs.lemmas.Result.{MatchResult-weaker}
use Rattle.bench_grants.specs.Grant.{bench_granted}
use Rattle.capi.proofs.BenchAnswered.{bench_moved_through}
use Rattle.capi.proofs.bench_channels.rimevelvet_bench_grant.Goals as goal

pub returns : goal.returns
returns c =
    c.moved.ensures
    ∙ bench_moved_through c.args.bench (search rules) (λ b. bench_granted b c.args.caller c.args.receiver c.args.channel) c.try_from-given.result c.and_then-granted.result c.try_from-given.ensures
    (MatchResult-weaker c.try_from-given.result c.and_then-granted.ensures (λ b p. search rules) (λ e q. q))
