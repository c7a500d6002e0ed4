-- The planner's number, which goes by the mapping, is that of the refusals as they are worded.
use Prim.Native.Nat.{ℕ, zero, suc, ◌+◌, ◌<◌}
use mathlib.Core.Path.{◌≡◌, refl, sym, ◌∙◌, ap}
use mathlib.Core.Bool.{Bool, true, false, cond, not, ◌&&◌, ◌||◌}
use mathlib.Core.List.{List, ◌∷◌}
use native.Mathlib.Omega.{arith}
use lib.Dec.{eqb, ltb}
use Rattle.cases.specs.Every.{any_of}
use Rattle.cases.proofs.Cases.{split, or_false}
use Rattle.refusal.specs.Numbers.{invalid_state}
use Rattle.refusal.specs.First.{first_of}
use Rattle.ads1299_serial.specs.Transfers.{is_waiting}
use Rattle.ads1299.specs.declared.Converter.{Converter}
use Rattle.ads1299_fields.specs.Names.{channel_field, takes_channel, whole_channel}
use Rattle.ads1299_settings.specs.Settings.{Setting, Values}
use Rattle.request.specs.declared.Request.{Request}
use Rattle.request.specs.Requests.{value_count}
use Rattle.planner.specs.Submission.{Submission}
use Rattle.planner.specs.Settings.{setting_at, settings_from, settings}
use Rattle.planner.specs.Runs.{runs, runs_length}
use Rattle.planner.specs.Plan.{plan_length}
use Rattle.planner.specs.Refusals.{field_owner, judged}
use Rattle.planner.specs.Planned.{refusal_of}
use Rattle.planner.proofs.Accepted.{number_is}
use Rattle.lines.specs.Lines.{converter_count, is_converter, converter_numbers, converter_of, local_channel, bench_channel}
use Rattle.lines.specs.Ranges.{is_bench_channel, is_whole, names}
use Rattle.lines.proofs.Numbering.{below_four}
use Rattle.lines.proofs.Ranges.{channels, wholes, converters}
use Rattle.bench.specs.declared.Bench.{Bench}
use Rattle.bench.specs.Bench.{at, valid_bench, bench_owners}
use Rattle.bench.specs.Formed.{FormedBench}
use Rattle.bench.proofs.Converters.{each_valid}
use Rattle.bench.proofs.Owners.{owner_at}
use Rattle.bench_planner.specs.Local.{target, local_request, localised}
use Rattle.bench_planner.specs.Planned.{bench_planned}
use Rattle.bench_planner.specs.Fields.{takes_number, bench_field}
use Rattle.bench_planner.specs.Refusals.{named_passes, bench_refusals, RefusalsAsWorded}

-- a request sets the same, in a plan of the same length, whichever number its channel has
settings_from_lem : (r : Request) (more i : ℕ) → settings_from (local_request r) i more ≡ settings_from r i more
unfolding settings_from local_request
settings_from_lem r zero i = refl
settings_from_lem r (suc more) i = ap (λ (rest : List Setting). setting_at r i ∷ rest) (settings_from_lem r more (i + 1))

pub local_settings : (r : Request) → settings (local_request r) ≡ settings r
unfolding settings local_request
local_settings r = settings_from_lem r (value_count r.field) 0

local_length : (r : Request) → runs_length (runs (local_request r)) ≡ runs_length (runs r)
unfolding runs_length local_request
local_length r = split (eqb r.field whole_channel) (λ e. rw e) (λ e. rw e)

-- the channel is taken by the mapping where the number is by the ranges
pub takes_local : (f n : ℕ) → takes_channel f (local_channel n) ≡ takes_number f n
takes_local f n = split (channel_field f) (λ e. rw e (channels n)) (λ e. rw e (wholes n))

-- a number that a field takes names a channel or a whole converter
pub named_so : (f n : ℕ) → takes_number f n ≡ true → (is_bench_channel n || is_whole n) ≡ true
named_so f n e =
    split (channel_field f)
    (λ c. rw (rw c at e))
    (λ c. split (is_bench_channel n) (λ q. rw q) (λ q. rw (q, rw c at e)))

-- what is asked of the converter that is named is asked of the one that the mapping says
chosen : (k : ℕ) → k < converter_count → (test : ℕ → Bool) → any_of (λ j. eqb k j && test j) converter_numbers ≡ test k
chosen zero h test = or_false (test 0)
chosen (suc zero) h test = or_false (test 1)
chosen (suc (suc zero)) h test = or_false (test 2)
chosen (suc (suc (suc zero))) h test = or_false (test 3)
chosen (suc (suc (suc (suc k)))) h test = absurd (omega (arith, h))

pub named_is : (b : Bench) (n : ℕ) (test : Converter → Bool) → (is_bench_channel n || is_whole n) ≡ true
    → named_passes b n test ≡ test (at b (converter_of n))
named_is b n test e =
    let is : (k : ℕ) → is_converter k ≡ true → names k n ≡ eqb (converter_of n) k = λ k h. converters k n h e in
    (λ i. (is 0 refl i && test (at b 0)) || ((is 1 refl i && test (at b 1)) || ((is 2 refl i && test (at b 2)) || ((is 3 refl i && test (at b 3)) || false))))
    ∙ chosen (converter_of n) (below_four n) (λ k. test (at b k))

-- a field's owner, among the bench's 32 and among the converter's eight
pub owner_is : (b : Bench) → FormedBench b → (f n : ℕ) → takes_number f n ≡ true
    → field_owner (at b (converter_of n)).owners f (local_channel n) ≡ field_owner (bench_owners b) f n
owner_is b h f n e = split (channel_field f) (λ c. rw c (sym (owner_at b h n (rw c at e)))) (λ c. rw c)

-- gives converter k's cells as it counts its channels
abbrev pub here : ℕ → Values → Values
here k values f m = values f (bench_channel k m)

-- gives the number by the mapping
unfoldable pub mapped_number : Bench → Values → Submission → ℕ
mapped_number b values x = cond (valid_bench b) (judged (at b (target x)) (here (target x) values) (localised x)) invalid_state

module _ (b : Bench) (h : FormedBench b) (values : Values) (x : Submission) where
  abbrev r : Request
  r = x.request

  same_tail : valid_bench b ≡ true → takes_number r.field r.channel ≡ true
      → judged (at b (target x)) (here (target x) values) (localised x) ≡ first_of (bench_refusals b values x)
  unfolding judged local_request
  same_tail v e =
      let k = target x in
      let n = named_so r.field r.channel e in
      rw (
        v,
        each_valid b v k (below_four r.channel),
        takes_local r.field r.channel,
        e,
        owner_is b h r.field r.channel e,
        local_settings r,
        named_is b r.channel (λ (c : Converter). not (is_waiting c.phase)) n,
        named_is b r.channel (λ (c : Converter). ltb x.room (plan_length c r)) n,
        local_length r,
      )

  wrong_number : valid_bench b ≡ true → takes_number r.field r.channel ≡ false
      → judged (at b (target x)) (here (target x) values) (localised x) ≡ first_of (bench_refusals b values x)
  unfolding judged local_request
  wrong_number v e = rw (v, each_valid b v (target x) (below_four r.channel), takes_local r.field r.channel, e)

  pub worded : mapped_number b values x ≡ first_of (bench_refusals b values x)
  unfolding mapped_number
  worded =
      split (valid_bench b)
      (λ v.
      ap (λ (passes : Bool). cond passes (judged (at b (target x)) (here (target x) values) (localised x)) invalid_state) v
      ∙ split (takes_number r.field r.channel) (same_tail v) (wrong_number v))
      (λ v. rw v)

pub mapped_is : (b : Bench) (x : Submission) → (bench_planned b x).refusal ≡ mapped_number b (bench_field b) x
unfolding bench_planned mapped_number refusal_of judged
mapped_is b x = split (valid_bench b) (λ v. rw v (number_is (at b (target x)) (localised x))) (λ v. rw v)

pub refusals_as_worded : RefusalsAsWorded
refusals_as_worded b h x = mapped_is b x ∙ worded b h (bench_field b) x
