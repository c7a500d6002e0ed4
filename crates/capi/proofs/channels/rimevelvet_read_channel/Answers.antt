use Rattle.std.proofs.Common.{rules, ◌∙◌}
use Rattle.std.proofs.lemmas.Result.{MatchResult-weaker}
use Rattle.readings.specs.Reading.{channel_reading}
use Rattle.capi.proofs.Answered.{reading_through}
use Rattle.capi.proofs.channels.rimevelvet_read_channel.Goals as goal

pub returns : goal.returns
returns c =
    c.from.ensures
    ∙ reading_through c.args.state (λ s. channel_reading s c.args.party c.args.channel c.args.frame.now) c.try_from-given.result c.and_then-reading.result c.try_from-given.ensures
    (MatchResult-weaker c.try_from-given.result c.and_then-reading.ensures (λ s p. search rules) (λ e q. q))
