use Rattle.std.proofs.Common.{rules, ◌∙◌}
use Rattle.std.proofs.lemmas.Result.{MatchResult-weaker}
use Rattle.ads1299.specs.Sample.{sampled}
use Rattle.capi.proofs.Answered.{moved_through}
use Rattle.capi.proofs.converter.rimevelvet_sample.Goals as goal

pub returns : goal.returns
returns c =
    c.moved.ensures
    ∙ moved_through c.args.state (λ s. sampled s c.args.codes.now c.args.p c.args.n) c.try_from.result c.and_then-sampled.result c.try_from.ensures
    (MatchResult-weaker c.try_from.result c.and_then-sampled.ensures (λ s p. search rules) (λ e q. q))
