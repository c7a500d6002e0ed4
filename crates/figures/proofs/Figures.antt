-- The figures hold, by computation.
use mathlib.Core.Path.{refl}
use Rattle.bits.specs.Fields.{field, bit, inserted, masked}
use Rattle.ads1299_codes.specs.Codes.{word_of, code_of}
use Rattle.ads1299_codes.specs.Words.{word, word_bytes, word_at, joined}
use Rattle.ads1299_frame.specs.Frame.{status_word, powered_down, shown, frame_word, frame_of}
use Rattle.ads1299_commands.specs.Commands.{register_command, decoded, acts}
use Rattle.ads1299_serial.specs.Transfers.{begun, remainder, countable}
use Rattle.ads1299_registers.specs.Table.{power_up, masks}
use Rattle.ads1299.specs.Registers.{register_at, written}
use Rattle.ads1299.specs.PowerUp.{valid_id, restored, powered_up}
use Rattle.ads1299.specs.Output.{emptied, loaded, ignored}
use Rattle.ads1299.specs.Validity.{valid_converter, valid}
use Rattle.ads1299.specs.Step.{effect, commanded, counted, outgoing, followed, stepped}
use Rattle.ads1299.specs.Run.{after, outs}
use Rattle.parties.specs.Parties.{known_party}
use Rattle.parties.specs.Owners.{owner_of}
use Rattle.ads1299_fields.specs.Table.{table, row_of}
use Rattle.ads1299_fields.specs.Names.{named}
use Rattle.ads1299_fields.specs.Places.{place}
use Rattle.ads1299_fields.specs.Values.{fits, legal, settable}
use Rattle.ads1299_settings.specs.Registers.{write_at, with_field}
use Rattle.planner.specs.Refusals.{judged}
use Rattle.ads1299_settings.specs.Settings.{with_settings}
use Rattle.request.specs.Requests.{padded}
use Rattle.planner.specs.Settings.{settings_from, settings}
use Rattle.planner.specs.Runs.{registers_from, writing_all, runs_length}
use Rattle.planner.specs.Plan.{plan_writing, registers_after, plan_of}
use Rattle.planner.specs.Planned.{refusal_of, plan, planned}
use Rattle.figures.specs.Figures.{FiguresHold}

pub figures_hold : FiguresHold
unfolding field bit inserted masked word_of code_of word word_bytes word_at joined status_word powered_down shown frame_word frame_of register_command decoded acts begun remainder countable power_up masks register_at written valid_id restored powered_up emptied loaded ignored valid_converter valid effect commanded counted outgoing followed stepped after outs known_party owner_of table row_of named place fits legal settable write_at with_field judged with_settings padded settings_from settings registers_from writing_all runs_length plan_writing registers_after plan_of refusal_of plan planned
figures_hold = refl
