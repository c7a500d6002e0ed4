use Rattle.ads1299_settings.proofs.Registers.{Settable, settable_facts}
use mathlib.Core.Path.{sym, ◌∙◌}
use Rattle.ads1299_settings.proofs.write.Goals as goal
use Rattle.ads1299_settings.proofs.write.Goals.{Then-is_settable}

facts : (c : Then-is_settable) → Settable c.args.field c.args.channel c.args.value
facts c = settable_facts _ _ _ (sym c.is_settable.ensures ∙ c.if-is_settable.true)

pub overflow_cast-value : goal.overflow_cast-value
overflow_cast-value c = record { fits = (facts c.before.before).small }
