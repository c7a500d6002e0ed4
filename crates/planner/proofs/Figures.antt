-- The figures hold, by computation.
use mathlib.Core.Path.{refl}
use Rattle.ads1299_serial.specs.Transfers.{countable}
use Rattle.ads1299_registers.specs.Table.{power_up}
use Rattle.ads1299.specs.PowerUp.{valid_id, restored, powered_up}
use Rattle.ads1299.specs.Validity.{valid_converter, valid}
use Rattle.parties.specs.Parties.{known_party}
use Rattle.parties.specs.Owners.{owner_of}
use Rattle.ads1299_fields.specs.Table.{table, row_of}
use Rattle.ads1299_fields.specs.Values.{fits, legal}
use Rattle.request.specs.Requests.{padded}
use Rattle.planner.specs.Settings.{settings_from, settings}
use Rattle.planner.specs.Runs.{runs_length}
use Rattle.planner.specs.Refusals.{judged}
use Rattle.planner.specs.Planned.{refusal_of, plan, planned}
use Rattle.planner.specs.Figures.{FiguresHold}

pub figures_hold : FiguresHold
unfolding countable power_up valid_id restored powered_up valid_converter valid known_party owner_of table row_of fits legal padded settings_from settings runs_length judged refusal_of plan planned
figures_hold = refl
