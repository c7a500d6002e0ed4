-- The figures of a bench hold, by computation.
use mathlib.Core.Path.{refl}
use mathlib.Core.List.{flatten}
use Rattle.bits.specs.Fields.{field, inserted, bit}
use Rattle.ads1299_codes.specs.Codes.{in_range, all_in_range, code_of}
use Rattle.ads1299_codes.specs.Words.{word, word_at, joined}
use Rattle.ads1299_codes.specs.Rails.{stands_for, rail_of}
use Rattle.ads1299_serial.specs.Transfers.{countable}
use Rattle.ads1299_registers.specs.Table.{power_up}
use Rattle.ads1299_readout.specs.Reading.{leading_bits, is_frame, channel_bytes, code_at, rail_at, status_p, status_n, lead_off_p, lead_off_n}
use Rattle.ads1299.specs.PowerUp.{valid_id, restored, powered_up}
use Rattle.ads1299.specs.Validity.{valid_converter, valid}
use Rattle.ads1299.specs.Sample.{complete, sample_refusal, sampled}
use Rattle.parties.specs.Parties.{known_party, is_admin}
use Rattle.parties.specs.Owners.{owner_of, owns}
use Rattle.ads1299_fields.specs.Table.{table, row_of}
use Rattle.ads1299_fields.specs.Names.{named}
use Rattle.ads1299_fields.specs.Places.{place}
use Rattle.ads1299_fields.specs.Values.{fits, legal, settable}
use Rattle.ads1299_settings.specs.Registers.{write_at, with_field}
use Rattle.ads1299_settings.specs.Settings.{with_settings}
use Rattle.request.specs.Requests.{padded}
use Rattle.planner.specs.Settings.{settings_from, settings}
use Rattle.planner.specs.Runs.{registers_from, writing_all, runs_length}
use Rattle.planner.specs.Refusals.{judged}
use Rattle.planner.specs.Plan.{plan_writing, registers_after, plan_of}
use Rattle.planner.specs.Planned.{refusal_of, plan, planned}
use Rattle.grants.specs.Grant.{grant_refusal, reassigned, granted}
use Rattle.readings.specs.Reading.{reading_refusal, channel_reading}
use Rattle.lines.specs.Lines.{converter_of, local_channel, channel_on}
use Rattle.bench.specs.Bench.{valid_bench}
use Rattle.bench.specs.PowerUp.{valid_ids, started, bench_powered_up}
use Rattle.bench.specs.Line.{line_refusal, bench_stepped, bench_deselected, bench_sampled}
use Rattle.bench_planner.specs.Local.{local_request}
use Rattle.bench_planner.specs.Planned.{bench_planned, bench_plan}
use Rattle.bench_grants.specs.Grant.{bench_granted}
use Rattle.bench_readings.specs.Reading.{bench_reading}
use Rattle.figures.specs.FourConverters.{FiguresHold}

pub figures_hold : FiguresHold
unfolding flatten field inserted bit in_range all_in_range code_of word word_at joined stands_for rail_of countable power_up leading_bits is_frame channel_bytes code_at rail_at status_p status_n lead_off_p lead_off_n valid_id restored powered_up valid_converter valid complete sample_refusal sampled known_party is_admin owner_of owns table row_of named place fits legal settable write_at with_field with_settings padded settings_from settings registers_from writing_all runs_length judged plan_writing registers_after plan_of refusal_of plan planned grant_refusal reassigned granted reading_refusal channel_reading converter_of local_channel channel_on valid_bench valid_ids started bench_powered_up line_refusal bench_stepped bench_deselected bench_sampled local_request bench_planned bench_plan bench_granted bench_reading
figures_hold = refl
