-- The refusals of a setting request for the bench as document 02, No. 4 words them: by the bench's own ranges and its 32 owners, without the
-- mapping that the planner goes by. That both give the same number is RefusalsAsWorded.
use Rattle.std.specs.Prelude.{ℕ, ◌≡◌, Bool, not, ◌&&◌, List, [], ◌∷◌, eqb, ltb}
use Rattle.cases.specs.Every.{any_of}
use Rattle.refusal.specs.Numbers.{unknown_party, unknown_field, wrong_channel, not_owner, bad_value, not_waiting, no_room, invalid_state}
use Rattle.refusal.specs.First.{first_of}
use Rattle.parties.specs.Parties.{known_party}
use Rattle.ads1299_serial.specs.Transfers.{is_waiting}
use Rattle.ads1299.specs.declared.Converter.{Converter}
use Rattle.ads1299_fields.specs.Names.{known_field}
use Rattle.ads1299_settings.specs.Settings.{Values}
use Rattle.planner.specs.Submission.{Submission}
use Rattle.planner.specs.Settings.{settings, all_legal}
use Rattle.planner.specs.Refusals.{field_owner}
use Rattle.planner.specs.Plan.{plan_length}
use Rattle.lines.specs.Lines.{converter_numbers}
use Rattle.lines.specs.Ranges.{names}
use Rattle.bench.specs.declared.Bench.{Bench}
use Rattle.bench.specs.Bench.{at, valid_bench, bench_owners}
use Rattle.bench.specs.Formed.{FormedBench}
use Rattle.bench_planner.specs.Fields.{takes_number, bench_field}
use Rattle.bench_planner.specs.Planned.{bench_planned}

-- the converter that the number names passes the test
abbrev pub named_passes : Bench → ℕ → (Converter → Bool) → Bool
named_passes b n test = any_of (λ k. names k n && test (at b k)) converter_numbers

-- the tests with their numbers, in the order in which they are tried. They are given the fields' values, which none of them reads yet. 13 asks
-- every converter, 8 and 9 the one that is named.
abbrev pub bench_refusals : Bench → Values → Submission → List (Bool × ℕ)
bench_refusals b values x =
    (not (valid_bench b), invalid_state)
    ∷ (not (known_party x.party), unknown_party)
    ∷ (not (known_field x.request.field), unknown_field)
    ∷ (not (takes_number x.request.field x.request.channel), wrong_channel)
    ∷ (not (eqb x.party (field_owner (bench_owners b) x.request.field x.request.channel)), not_owner)
    ∷ (not (all_legal (settings x.request)), bad_value)
    ∷ (named_passes b x.request.channel (λ (c : Converter). not (is_waiting c.phase)), not_waiting)
    ∷ (named_passes b x.request.channel (λ (c : Converter). ltb x.room (plan_length c x.request)), no_room)
    ∷ []

-- Every request is answered the number of the first refusal that applies as document 02 words them.
abbrev pub RefusalsAsWorded : Type 0
RefusalsAsWorded = (b : Bench) → FormedBench b → (x : Submission) → (bench_planned b x).refusal ≡ first_of (bench_refusals b (bench_field b) x)
