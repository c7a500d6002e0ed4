-- The figures hold, by computation.
use mathlib.Core.Path.{refl}
use Rattle.bits.specs.Fields.{field, inserted}
use Rattle.leb128.specs.Decoding.{decoded}
use Rattle.leb128.specs.Series.{series}
use Rattle.request.specs.Requests.{padded, request_of}
use Rattle.request.specs.Reading.{numbers_in, numbers_read, read_refusal, parsed}
use Rattle.ads1299_registers.specs.Table.{power_up}
use Rattle.ads1299.specs.PowerUp.{valid_id, restored, powered_up}
use Rattle.ads1299.specs.Validity.{valid_converter, valid}
use Rattle.parties.specs.Parties.{known_party}
use Rattle.parties.specs.Owners.{owner_of}
use Rattle.ads1299_fields.specs.Table.{table, row_of}
use Rattle.ads1299_fields.specs.Names.{named}
use Rattle.ads1299_fields.specs.Places.{place}
use Rattle.ads1299_fields.specs.Values.{fits, legal, settable}
use Rattle.ads1299_settings.specs.Registers.{read_at, write_at, field_of, field_byte, with_field}
use Rattle.ads1299_settings.specs.Settings.{with_settings}
use Rattle.planner.specs.Settings.{settings_from, settings}
use Rattle.planner.specs.Runs.{registers_from, writing_all, runs_length}
use Rattle.planner.specs.Refusals.{judged}
use Rattle.planner.specs.Plan.{plan_writing, registers_after, plan_of}
use Rattle.planner.specs.Planned.{refusal_of, changed, plan, planned}
use Rattle.console.specs.Text.{decimal, hex, hexes}
use Rattle.console.specs.Line.{line}
use Rattle.console.specs.Turn.{fresh, printed, next_state, consumed}
use Rattle.console.specs.Transcript.{lines, session, transcript_of}
use Rattle.console.specs.Figures.{figures, FiguresHold}

pub figures_hold : FiguresHold
unfolding figures field inserted decoded series padded request_of numbers_in numbers_read read_refusal parsed power_up valid_id restored powered_up valid_converter valid known_party owner_of table row_of named place fits legal settable read_at write_at field_of field_byte with_field with_settings settings_from settings registers_from writing_all runs_length judged plan_writing registers_after plan_of refusal_of changed plan planned decimal hex hexes line fresh printed next_state consumed lines session transcript_of
figures_hold = refl
