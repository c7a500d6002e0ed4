use Rattle.readings.specs.Reading.{reading_refusals, reading_refusal}
use Rattle.refusal.specs.Numbers.{invalid_state, unknown_party, wrong_channel, not_owner, bad_frame}
use Rattle.refusal.proofs.First.{walked, says}
use mathlib.Core.List.{[], ◌∷◌}
use mathlib.Core.Path.{refl}
use Rattle.readings.proofs.judge_reading.Goals as goal

pub returns : goal.returns
unfolding reading_refusal
returns c = let a = c.args in
    walked (reading_refusals a.converter a.party a.channel a.frame.now) refl c.first_of.ensures
    (λ i. says invalid_state c.when.ensures c.is_valid.ensures i
    ∷ says unknown_party c.when-2.ensures c.is_known.ensures i
    ∷ says wrong_channel c.when-3.ensures c.is_channel.ensures i
    ∷ says not_owner c.when-4.ensures c.is_owner.ensures i
    ∷ says bad_frame c.when-5.ensures c.is_frame.ensures i
    ∷ [])
