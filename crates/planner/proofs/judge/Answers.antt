use Prim.Native.Nat.{ℕ}
use Rattle.planner.specs.Refusals.{refusals, judged}
use Rattle.planner.specs.Planned.{refusal_of}
use Rattle.refusal.specs.Numbers.{invalid_state, unknown_party, unknown_field, wrong_channel, not_owner, bad_value, not_waiting, no_room}
use Rattle.refusal.specs.First.{given}
use Rattle.refusal.proofs.First.{walked, says}
use Rattle.ads1299_settings.specs.Registers.{field_of}
use lib.Dec.{ltb}
use mathlib.Core.List.{[], ◌∷◌}
use mathlib.Core.Path.{refl, ap, ◌∙◌}
use Rattle.planner.proofs.judge.Goals as goal

pub returns-clause-judged : goal.returns-clause-judged
unfolding refusal_of judged
returns-clause-judged c =
    let a = c.args in
    walked (refusals a.c (field_of a.c.registers) (record { party = a.party; request = a.request; room = a.room })) refl c.first_of.ensures
    (λ i. says invalid_state c.when.ensures c.is_valid.ensures i
    ∷ says unknown_party c.when-2.ensures c.is_known.ensures i
    ∷ says unknown_field c.when-3.ensures c.is_known_field.ensures i
    ∷ says wrong_channel c.when-4.ensures c.takes_channel.ensures i
    ∷ says not_owner c.when-5.ensures c.is_field_owner.ensures i
    ∷ says bad_value c.when-6.ensures c.are_legal.ensures i
    ∷ says not_waiting c.when-7.ensures c.is_waiting.ensures i
    ∷ (c.when-8.ensures ∙ ap (λ (n : ℕ). given (ltb a.room n) no_room) c.plan_length.ensures) i
    ∷ [])
