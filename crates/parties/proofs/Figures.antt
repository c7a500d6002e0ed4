-- The figures hold, by computation.
use mathlib.Core.Path.{refl}
use Rattle.parties.specs.Parties.{known_party, is_admin}
use Rattle.parties.specs.Owners.{owner_of, owns}
use Rattle.parties.specs.Figures.{FiguresHold}

pub figures_hold : FiguresHold
unfolding known_party is_admin owner_of owns
figures_hold = refl
