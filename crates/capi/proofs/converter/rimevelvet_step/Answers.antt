use Rattle.std.proofs.Common.{rules, ◌∙◌}
use Rattle.std.proofs.lemmas.Result.{MatchResult-weaker}
use Rattle.ads1299.specs.Step.{stepped}
use Rattle.capi.proofs.Answered.{step_through}
use Rattle.capi.proofs.converter.rimevelvet_step.Goals as goal

pub returns : goal.returns
returns c =
    c.stepped.ensures
    ∙ step_through c.args.state (λ s. stepped s c.args.byte) c.try_from.result c.and_then-stepped.result c.try_from.ensures
    (MatchResult-weaker c.try_from.result c.and_then-stepped.ensures (λ s p. search rules) (λ e q. q))
