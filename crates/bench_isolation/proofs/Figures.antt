-- The figures hold, by computation.
use mathlib.Core.Path.{refl}
use Rattle.bits.specs.Fields.{field, inserted}
use Rattle.ads1299_registers.specs.Table.{power_up}
use Rattle.ads1299.specs.PowerUp.{valid_id, restored, powered_up}
use Rattle.ads1299.specs.Validity.{valid_converter, valid}
use Rattle.parties.specs.Parties.{known_party}
use Rattle.parties.specs.Owners.{owner_of}
use Rattle.ads1299_fields.specs.Table.{table, row_of}
use Rattle.ads1299_fields.specs.Names.{named, sum_below}
use Rattle.ads1299_fields.specs.Places.{place}
use Rattle.ads1299_fields.specs.Values.{fits, legal, settable}
use Rattle.ads1299_settings.specs.Registers.{write_at, with_field}
use Rattle.ads1299_settings.specs.Settings.{with_settings}
use Rattle.request.specs.Requests.{padded}
use Rattle.planner.specs.Settings.{settings_from, settings}
use Rattle.planner.specs.Runs.{registers_from, writing_all, runs_length}
use Rattle.planner.specs.Plan.{plan_writing, registers_after, plan_of}
use Rattle.planner.specs.Refusals.{judged}
use Rattle.planner.specs.Planned.{refusal_of, changed, plan, planned}
use Rattle.lines.specs.Lines.{converter_of, local_channel}
use Rattle.bench.specs.Bench.{valid_bench}
use Rattle.bench_planner.specs.Local.{local_request}
use Rattle.bench_planner.specs.Planned.{bench_planned, bench_plan}
use Rattle.bench_planner.specs.Fields.{bench_named}
use Rattle.bench_isolation.specs.Lists.{numbers, plans, end}
use Rattle.bench_isolation.specs.Figures.{FiguresHold}

pub figures_hold : FiguresHold
unfolding field inserted power_up valid_id restored powered_up valid_converter valid known_party owner_of table row_of named sum_below place fits legal settable write_at with_field with_settings padded settings_from settings registers_from writing_all runs_length plan_writing registers_after plan_of judged refusal_of changed plan planned converter_of local_channel valid_bench local_request bench_planned bench_plan bench_named numbers plans end
figures_hold = refl
