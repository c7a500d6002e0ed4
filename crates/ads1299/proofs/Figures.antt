-- The figures hold, by computation.
use mathlib.Core.Path.{refl}
use Rattle.bits.specs.Fields.{field, bit, masked}
use Rattle.ads1299_commands.specs.Commands.{register_command, decoded, acts}
use Rattle.ads1299_serial.specs.Transfers.{begun, remainder, countable}
use Rattle.ads1299_registers.specs.Table.{power_up, masks}
use Rattle.ads1299.specs.Registers.{register_at, written}
use Rattle.ads1299.specs.PowerUp.{valid_id, restored, powered_up}
use Rattle.ads1299.specs.Output.{emptied, loaded, ignored}
use Rattle.ads1299.specs.Validity.{valid_converter, valid}
use Rattle.ads1299.specs.Step.{effect, commanded, counted, outgoing, followed, stepped}
use Rattle.ads1299.specs.Run.{outs}
use Rattle.ads1299.specs.Figures.{FiguresHold}

pub figures_hold : FiguresHold
unfolding field bit masked register_command decoded acts begun remainder countable power_up masks register_at written valid_id restored powered_up emptied loaded ignored valid_converter valid effect commanded counted outgoing followed stepped outs
figures_hold = refl
