use Rattle.ads1299.specs.Sample.{sample_refusals, sample_refusal}
use Rattle.refusal.specs.Numbers.{invalid_state, not_converting, bad_sample}
use Rattle.refusal.proofs.First.{walked, says}
use mathlib.Core.List.{[], ◌∷◌}
use mathlib.Core.Path.{refl}
use Rattle.ads1299.proofs.Converter.judge_sample.Goals as goal

pub returns : goal.returns
unfolding sample_refusal
returns c =
    let a = c.args in
    walked (sample_refusals a.self a.codes.now) refl c.first_of.ensures
    (λ i. says invalid_state c.when.ensures c.is_valid.ensures i
    ∷ says not_converting c.when-2.ensures c.is_running.ensures i
    ∷ says bad_sample c.when-3.ensures c.is_complete.ensures i
    ∷ [])
