-- The figures hold, by computation.
use mathlib.Core.Path.{refl}
use Rattle.parties.specs.Parties.{known_party, is_admin}
use Rattle.ads7953.specs.Frame.{powered_up, valid}
use Rattle.ads7953_list.specs.Planned.{list_refusal, list_planned, list_tx_after}
use Rattle.ads7953_list.specs.Figures.{FiguresHold}

pub figures_hold : FiguresHold
unfolding known_party is_admin powered_up valid list_refusal list_planned list_tx_after
figures_hold = refl
