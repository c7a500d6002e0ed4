use Rattle.grants.specs.Grant.{grant_refusals, grant_refusal}
use Rattle.refusal.specs.Numbers.{invalid_state, unknown_party, wrong_channel, not_owner}
use Rattle.refusal.proofs.First.{walked, says}
use mathlib.Core.List.{[], ◌∷◌}
use mathlib.Core.Path.{refl}
use Rattle.grants.proofs.judge_grant.Goals as goal

pub returns : goal.returns
unfolding grant_refusal
returns c = let a = c.args in
    walked (grant_refusals a.converter a.caller a.receiver a.channel) refl c.first_of.ensures
    (λ i. says invalid_state c.when.ensures c.is_valid.ensures i
    ∷ says unknown_party c.when-2.ensures c.is_known.ensures i
    ∷ says unknown_party c.when-3.ensures c.is_known-2.ensures i
    ∷ says wrong_channel c.when-4.ensures c.is_channel.ensures i
    ∷ says not_owner c.when-5.ensures c.is_admin.ensures i
    ∷ [])
