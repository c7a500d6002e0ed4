-- What the calls answer through the flat form of a state. A refused call hands back the bytes that it was given, since they are the flat
-- form of the state that is kept.
use mathlib.Core.Path.{◌≡◌, refl}
use mathlib.Core.Bool.{true}
use Rattle.std.specs.Prelude.{Result, Ok, Err, MatchResult}
use Rattle.refusal.specs.declared.Refusal.{Refusal}
use Rattle.ads1299.specs.declared.Converter.{Converter}
use Rattle.ads1299.specs.declared.Exchange.{Exchange}
use Rattle.ads1299.specs.Answers.{Stepped, Moved, step_answer, moved_answer}
use Rattle.readings.specs.declared.Readout.{Readout}
use Rattle.readings.specs.Answers.{Reading, reading_answer}
use Rattle.planner.specs.declared.ConverterPlan.{ConverterPlan}
use Rattle.planner.specs.Answers.{Planned, plan_answer}
use Rattle.flat.specs.declared.FlatConverter.{FlatConverter}
use Rattle.flat.specs.States.{is_state, state_of, state_in}
use Rattle.flat.proofs.RoundTrip.{round_trip}
use Rattle.capi.specs.declared.FlatPart.{FlatPart}
use Rattle.capi.specs.declared.answers.Located.{Located}
use Rattle.capi.specs.Answers.{stepped_from, moved_from, planned_from, flat_reading, refused_reading, reading_from, part_from}
use Rattle.capi.specs.Results.{flat_step_answer, flat_moved_answer, flat_plan_answer, flat_part_answer}
use Rattle.capi.proofs.Through.{through}

module _ (f : FlatConverter) where
  step_kept : is_state f ≡ true → (r : Result (Exchange Converter) Refusal) → flat_step_answer f r ≡ stepped_from f (step_answer (state_of f) r)
  unfolding stepped_from
  step_kept v (Ok exchange) = rw v refl
  step_kept v (Err refusal) = rw (v, round_trip.returns_flat f v) refl

  moved_kept : is_state f ≡ true → (r : Result Converter Refusal) → flat_moved_answer f r ≡ moved_from f (moved_answer (state_of f) r)
  unfolding moved_from
  moved_kept v (Ok next) = rw v refl
  moved_kept v (Err refusal) = rw (v, round_trip.returns_flat f v) refl

  plan_kept : is_state f ≡ true → (r : Result ConverterPlan Refusal) → flat_plan_answer f r ≡ planned_from f (plan_answer (state_of f) r)
  unfolding planned_from
  plan_kept v (Ok plan) = rw v refl
  plan_kept v (Err refusal) = rw (v, round_trip.returns_flat f v) refl

  pub step_through : (a : Converter → Stepped) (o : Result Converter Refusal) (r : Result (Exchange Converter) Refusal)
      → o ≡ state_in f → MatchResult o (λ s. step_answer s r ≡ a s) (λ e. r ≡ Err e)
      → flat_step_answer f r ≡ stepped_from f (a (state_of f))
  unfolding stepped_from state_in
  step_through = through (is_state f) (state_of f) step_answer (flat_step_answer f) (stepped_from f) (record { on_state = step_kept; on_none = λ v a. rw v refl })

  pub moved_through : (a : Converter → Moved) (o r : Result Converter Refusal)
      → o ≡ state_in f → MatchResult o (λ s. moved_answer s r ≡ a s) (λ e. r ≡ Err e)
      → flat_moved_answer f r ≡ moved_from f (a (state_of f))
  unfolding moved_from state_in
  moved_through = through (is_state f) (state_of f) moved_answer (flat_moved_answer f) (moved_from f) (record { on_state = moved_kept; on_none = λ v a. rw v refl })

  pub plan_through : (a : Converter → Planned) (o : Result Converter Refusal) (r : Result ConverterPlan Refusal)
      → o ≡ state_in f → MatchResult o (λ s. plan_answer s r ≡ a s) (λ e. r ≡ Err e)
      → flat_plan_answer f r ≡ planned_from f (a (state_of f))
  unfolding planned_from state_in
  plan_through = through (is_state f) (state_of f) plan_answer (flat_plan_answer f) (planned_from f) (record { on_state = plan_kept; on_none = λ v a. rw v refl })

  pub reading_through : (a : Converter → Reading) (o : Result Converter Refusal) (r : Result Readout Refusal)
      → o ≡ state_in f → MatchResult o (λ s. reading_answer r ≡ a s) (λ e. r ≡ Err e)
      → flat_reading (reading_answer r) ≡ reading_from f (a (state_of f))
  unfolding reading_from flat_reading refused_reading state_in
  reading_through =
      through (is_state f) (state_of f) (λ s. reading_answer) (λ r. flat_reading (reading_answer r)) (reading_from f)
      (record { on_state = λ v r. rw v refl; on_none = λ v a. rw v refl })

  pub part_through : (a : Converter → FlatPart) (o : Result Converter Refusal) (r : Result Located Refusal)
      → o ≡ state_in f → MatchResult o (λ s. flat_part_answer r ≡ a s) (λ e. r ≡ Err e)
      → flat_part_answer r ≡ part_from f (a (state_of f))
  unfolding part_from state_in
  part_through =
      through (is_state f) (state_of f) (λ s. flat_part_answer) flat_part_answer (part_from f)
      (record { on_state = λ v r. rw v refl; on_none = λ v a. rw v refl })
