use Rattle.std.proofs.Common.{rules, ◌∙◌}
use Rattle.std.proofs.lemmas.Result.{MatchResult-weaker}
use Rattle.capi.specs.Answers.{channel_part}
use Rattle.capi.proofs.Answered.{part_through}
use Rattle.capi.proofs.channels.rimevelvet_channel_bytes.Goals as goal

pub returns : goal.returns
returns c =
    c.from.ensures
    ∙ part_through c.args.state (λ s. channel_part s c.args.party c.args.channel c.args.frame.now) c.try_from-given.result c.and_then-part.result c.try_from-given.ensures
    (MatchResult-weaker c.try_from-given.result c.and_then-part.ensures (λ s p. search rules) (λ e q. q))
