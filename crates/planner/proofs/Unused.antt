-- A request and its own numbers have the same settings.
use Prim.Native.Nat.{ℕ, zero, suc, ◌+◌, ◌-◌, ◌<◌, ◌≤◌}
use mathlib.Core.Path.{◌≡◌, refl, ◌∙◌}
use mathlib.Core.List.{List, [], ◌∷◌, ◌++◌}
use native.Mathlib.Omega.{arith}
use lib.ListN.{length, take, get_or, replicate}
use Rattle.request.specs.declared.Request.{Request}
use Rattle.request.specs.Requests.{most_values, value_count, padded, numbers_of, request_of}
use Rattle.planner.specs.Settings.{setting_at, settings_from, settings}
use Rattle.ads1299.specs.declared.Converter.{Converter}
use Rattle.ads1299_settings.specs.Registers.{field_of}
use Rattle.ads1299_settings.specs.Settings.{Values}
use Rattle.planner.specs.Submission.{Submission}
use Rattle.planner.specs.Refusals.{judged}
use Rattle.planner.specs.Plan.{plan_writing, registers_after, plan_of}
use Rattle.planner.specs.Planned.{refusal_of, changed, plan, planned}
use Rattle.planner.specs.Unused.{numbered, UnusedValues}

-- 0 past a list's end is what it has there anyway
zero_there : (n i : ℕ) → ◌≡◌ {A = ℕ} (get_or (replicate n 0) i 0) 0
zero_there zero i = refl
zero_there (suc n) zero = refl
zero_there (suc n) (suc i) = zero_there n i

past_end : (l : List ℕ) (n i : ℕ) → get_or (l ++ replicate n 0) i 0 ≡ get_or l i 0
past_end [] n i = zero_there n i
past_end (a ∷ l) n zero = refl
past_end (a ∷ l) n (suc i) = past_end l n i

taken : (l : List ℕ) (count i : ℕ) → i < count → get_or (take count l) i 0 ≡ get_or l i 0
taken l zero i lt = absurd (omega arith)
taken [] (suc count) i lt = refl
taken (a ∷ l) (suc count) zero lt = refl
taken (a ∷ l) (suc count) (suc i) lt = taken l count i (omega arith)

same_from : (r : Request) (more i : ℕ) → i + more ≤ value_count r.field → settings_from (request_of (numbers_of r)) i more ≡ settings_from r i more
unfolding settings_from request_of numbers_of padded
same_from r zero i le = refl
same_from r (suc more) i le =
    let used = take (value_count r.field) r.values in
    let e : get_or (padded most_values used) i 0 ≡ get_or r.values i 0 = past_end used (most_values - length used) i ∙ taken r.values (value_count r.field) i (omega arith) in
    (λ j. record { field = (setting_at r i).field; value = e j } ∷ same_from r more (i + 1) (omega arith) j)

same_settings : (r : Request) → settings (request_of (numbers_of r)) ≡ settings r
unfolding settings request_of numbers_of
same_settings r = same_from r (value_count r.field) 0 (omega arith)

same_refusal : (s : Converter) (values : Values) (x : Submission) → judged s values (numbered x) ≡ judged s values x
unfolding judged request_of numbers_of
same_refusal s values x = rw (same_settings x.request)

same_plan : (s : Converter) (x : Submission) → plan s (numbered x) ≡ plan s x
unfolding plan refusal_of plan_of plan_writing registers_after request_of numbers_of
same_plan s x = rw (same_refusal s (field_of s.registers) x, same_settings x.request)

same_answer : (s : Converter) (x : Submission) → planned s (numbered x) ≡ planned s x
unfolding planned refusal_of changed registers_after request_of numbers_of
same_answer s x = rw (same_refusal s (field_of s.registers) x, same_settings x.request)

pub unused_values : UnusedValues
unused_values = record { same_settings = same_settings; same_refusal = same_refusal; same_plan = same_plan; same_answer = same_answer }
