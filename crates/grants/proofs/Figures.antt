-- The figures hold, by computation.
use mathlib.Core.Path.{refl}
use Rattle.ads1299_registers.specs.Table.{power_up}
use Rattle.ads1299.specs.PowerUp.{valid_id, restored, powered_up}
use Rattle.ads1299.specs.Validity.{valid_converter, valid}
use Rattle.parties.specs.Parties.{known_party, is_admin}
use Rattle.grants.specs.Grant.{grant_refusal, reassigned, granted}
use Rattle.grants.specs.Figures.{FiguresHold}

pub figures_hold : FiguresHold
unfolding power_up valid_id restored powered_up valid_converter valid known_party is_admin grant_refusal reassigned granted
figures_hold = refl
