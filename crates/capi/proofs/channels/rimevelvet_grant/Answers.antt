use Rattle.std.proofs.Common.{rules, ◌∙◌}
use Rattle.std.proofs.lemmas.Result.{MatchResult-weaker}
use Rattle.grants.specs.Grant.{granted}
use Rattle.capi.proofs.Answered.{moved_through}
use Rattle.capi.proofs.channels.rimevelvet_grant.Goals as goal

pub returns : goal.returns
returns c =
    c.moved.ensures
    ∙ moved_through c.args.state (λ s. granted s c.args.caller c.args.receiver c.args.channel) c.try_from-given.result c.and_then-granted.result c.try_from-given.ensures
    (MatchResult-weaker c.try_from-given.result c.and_then-granted.ensures (λ s p. search rules) (λ e q. q))
