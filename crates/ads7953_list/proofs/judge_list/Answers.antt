use mathlib.Core.List.{[], ◌∷◌}
use mathlib.Core.Path.{refl}
use Rattle.refusal.specs.Numbers.{unknown_party, not_owner, invalid_state}
use Rattle.refusal.proofs.First.{walked, says}
use Rattle.ads7953_list.specs.Planned.{list_refusals, list_refusal}
use Rattle.ads7953_list.proofs.judge_list.Goals as goal

pub returns : goal.returns
unfolding list_refusal
returns c =
    let a = c.args in
    walked (list_refusals a.state a.party a.list a.room) refl c.first_of.ensures
    (λ i. says invalid_state c.when.ensures c.is_valid.ensures i
    ∷ says unknown_party c.when-2.ensures c.is_known.ensures i
    ∷ says not_owner c.when-3.ensures c.is_admin.ensures i
    ∷ c.when-4.ensures i
    ∷ c.when-5.ensures i
    ∷ c.when-6.ensures i
    ∷ [])
