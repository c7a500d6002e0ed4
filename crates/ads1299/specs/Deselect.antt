-- The select line rises (document 01's words): a command half given ends, and the output is empty.
use Rattle.std.specs.Prelude.{cond}
use Rattle.refusal.specs.Numbers.{none, invalid_state}
use Rattle.ads1299.specs.declared.Converter.{Converter}
use Rattle.ads1299.specs.Answers.{Moved}
use Rattle.ads1299_serial.specs.declared.Phase.TheVariants.{Waiting}
use Rattle.ads1299.specs.State.{with_phase, moved}
use Rattle.ads1299.specs.Output.{emptied}
use Rattle.ads1299.specs.Validity.{valid}

-- gives the answer to a select rise: registers already written stay, and it is refused only by 13
unfoldable pub deselected : Converter → Moved
deselected s = cond (valid s) (moved none (with_phase (emptied s) Waiting)) (moved invalid_state s)
