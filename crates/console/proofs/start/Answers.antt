use Rattle.console.specs.Turn.{fresh}
use Rattle.console.proofs.start.Goals as goal

pub returns : goal.returns
unfolding fresh
returns c = simp (← c.power_up.ensures)
