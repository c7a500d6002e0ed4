-- Demand 2: a request is accepted exactly when no refusal applies; its bytes make its settings and change nothing else.
use Rattle.std.specs.Prelude.{ℕ, ◌<◌, ◌≡◌, true, false, [], length, replicate, None}
use Rattle.refusal.specs.Numbers.{none}
use Rattle.refusal.specs.First.{first_of, Exact}
use Rattle.ads1299.specs.declared.Converter.{Converter}
use Rattle.ads1299.specs.State.{with_registers, with_output}
use Rattle.ads1299.specs.Formed.{Formed}
use Rattle.ads1299.specs.Validity.{valid}
use Rattle.ads1299.specs.Run.{after, run_refusals}
use Rattle.ads1299_fields.specs.declared.Place.{Place}
use Rattle.ads1299_fields.specs.Names.{named}
use Rattle.ads1299_settings.specs.Registers.{read_at, field_of}
use Rattle.ads1299_settings.specs.Settings.{all_apart}
use Rattle.request.specs.Requests.{value_count}
use Rattle.planner.specs.Submission.{Submission}
use Rattle.planner.specs.Settings.{setting_at, settings, sets_field}
use Rattle.planner.specs.Refusals.{refusals}
use Rattle.planner.specs.Planned.{plan, planned}

-- gives the state after the plan's bytes, one by one through the byte step
abbrev pub sent : Converter → Submission → Converter
sent s x = after s (plan s x)

-- an accepted request is fulfilled by the bytes of its plan
pub record Fulfilled (s : Converter) (x : Submission) : Type 0 where
  -- no byte of the plan is refused
  pub unrefused : run_refusals s (plan s x) ≡ replicate (length (plan s x)) none
  -- each value stands in its field: the one, or a channel's nine
  pub values : (i : ℕ) → i < value_count x.request.field
      → field_of (sent s x).registers (setting_at x.request i).field x.request.channel ≡ (setting_at x.request i).value
  -- every other field is as it was
  pub fields : (f n : ℕ) → named f n ≡ true → sets_field x.request f n ≡ false → field_of (sent s x).registers f n ≡ field_of s.registers f n
  -- and so is every place, of any register, that has no bit of a field that is set
  pub others : (j : Place) → all_apart x.request.channel (settings x.request) j ≡ true → read_at (sent s x).registers j ≡ read_at s.registers j
  -- all but the registers is as it was, the modes too, and nothing is pending
  pub rest : sent s x ≡ with_output (with_registers s (sent s x).registers) None
  -- the planner answers the state in which the bytes end, which passes 13, and how many they are
  pub next : (planned s x).next ≡ sent s x
  pub passes : valid (planned s x).next ≡ true
  pub counted : (planned s x).length ≡ length (plan s x)

-- a refused request changes nothing and sends nothing
pub record Refused (s : Converter) (x : Submission) : Type 0 where
  pub next : (planned s x).next ≡ s
  pub counted : (planned s x).length ≡ 0
  pub bytes : plan s x ≡ []

-- the number is that of the first refusal that applies, and 0 exactly when none does; at 0 the request is fulfilled
pub record Answered (s : Converter) (x : Submission) : Type 0 where
  pub first : (planned s x).refusal ≡ first_of (refusals s (field_of s.registers) x)
  pub exact : Exact (refusals s (field_of s.registers) x)
  pub fulfilled : (planned s x).refusal ≡ none → Fulfilled s x
  pub refused : ((planned s x).refusal ≡ none → ⊥) → Refused s x

-- Every request is so answered, in every state that the code can hold: 13 and 8 see to it that it is a converter's, between commands.
abbrev pub Demand2 : Type 0
Demand2 = (s : Converter) → Formed s → (x : Submission) → Answered s x
