-- Fresh channel registers: their fields by one computed test, and the figures by computation.
use Prim.Native.Nat.{ℕ, suc, ◌+◌}
use mathlib.Core.Bool.{Bool, true, cond}
use mathlib.Core.List.{List}
use mathlib.Core.Path.{◌≡◌, refl}
use native.Mathlib.Omega.{arith}
use borrow.Author.Tests.{eqb-true}
use lib.Dec.{eqb}
use lib.ListN.{get_or}
use Rattle.cases.specs.Below.{below}
use Rattle.cases.proofs.Below.{below_at}
use Rattle.ads1299_registers.specs.Addresses.{channel_count}
use Rattle.ads1299_registers.specs.Channels.{is_channel}
use Rattle.ads1299_registers.proofs.Bounds.{bounds}
use Rattle.bits.specs.Fields.{field, bit, inserted, masked}
use Rattle.ads1299_commands.specs.Commands.{register_command, decoded, acts}
use Rattle.ads1299_serial.specs.Transfers.{begun, remainder, countable}
use Rattle.ads1299_registers.specs.Table.{power_up, masks}
use Rattle.ads1299.specs.Registers.{register_at, written}
use Rattle.ads1299.specs.PowerUp.{valid_id, restored, powered_up}
use Rattle.ads1299.specs.Output.{emptied, loaded, ignored}
use Rattle.ads1299.specs.Validity.{valid_converter, valid}
use Rattle.ads1299.specs.Step.{effect, commanded, counted, outgoing, followed, stepped}
use Rattle.ads1299.specs.Run.{after, outs}
use Rattle.parties.specs.Parties.{known_party}
use Rattle.parties.specs.Owners.{owner_of}
use Rattle.ads1299_fields.specs.Table.{table, row_of}
use Rattle.ads1299_fields.specs.Names.{channel_field_count, named}
use Rattle.ads1299_fields.specs.Places.{place}
use Rattle.ads1299_fields.specs.Values.{fits, legal, settable}
use Rattle.ads1299_settings.specs.Registers.{read_at, write_at, field_of, with_field}
use Rattle.ads1299_settings.specs.Settings.{with_settings}
use Rattle.request.specs.Requests.{padded}
use Rattle.planner.specs.Settings.{settings_from, settings}
use Rattle.planner.specs.Runs.{registers_from, writing_all, runs_length}
use Rattle.planner.specs.Refusals.{judged}
use Rattle.planner.specs.Plan.{plan_writing, registers_after, plan_of}
use Rattle.planner.specs.Planned.{refusal_of, plan, planned}
use Rattle.figures.specs.FreshChannels.{reset_values, FreshFields, FiguresHold}

-- tells whether field i + 1 of a channel is at its value after a reset
at_value : ℕ → List ℕ → ℕ → ℕ → Bool
at_value id owners n i = eqb (field_of (restored id owners).registers (suc i) n) (get_or reset_values i 0)

-- tells it of all nine; nothing is asked of a number that is no channel's
at_values : ℕ → List ℕ → ℕ → Bool
at_values id owners n = cond (is_channel n) (below channel_field_count (at_value id owners n)) true

all_at_values : (id : ℕ) (owners : List ℕ) → below (channel_count + 1) (at_values id owners) ≡ true
unfolding field power_up restored table row_of named place read_at field_of at_value at_values
all_at_values id owners = refl

pub fresh_fields : FreshFields
unfolding at_value at_values
fresh_fields id owners n i h lt =
    let at : at_values id owners n ≡ true = below_at (channel_count + 1) (at_values id owners) (all_at_values id owners) n (omega (arith, (bounds n h).high)) in
    eqb-true _ _ (below_at channel_field_count (at_value id owners n) (rw h at at) i lt)

pub figures_hold : FiguresHold
unfolding field bit inserted masked register_command decoded acts begun remainder countable power_up masks register_at written valid_id restored powered_up emptied loaded ignored valid_converter valid effect commanded counted outgoing followed stepped after outs known_party owner_of table row_of named place fits legal settable write_at with_field with_settings padded settings_from settings registers_from writing_all runs_length judged plan_writing registers_after plan_of refusal_of plan planned
figures_hold = refl
