-- The answers of the entry points below, taken to the flat form.
use Prim.Native.Nat.{ℕ}
use mathlib.Core.Path.{◌≡◌, refl, sym, ap}
use mathlib.Core.Bool.{Bool, true, false, false≢true}
use mathlib.Core.List.{List}
use Rattle.std.specs.Prelude.{Result, Ok, Err}
use Rattle.std.specs.Result.{result_unwrap_or}
use Rattle.cases.proofs.Cases.{split}
use Rattle.refusal.specs.Numbers.{invalid_state}
use Rattle.refusal.specs.declared.Refusal.{Refusal}
use Rattle.refusal.specs.Refusals.{number_of, answer_number}
use Rattle.ads7953.specs.declared.Ads7953.{Ads7953}
use Rattle.ads7953.specs.declared.Exchange.{Exchange}
use Rattle.ads7953.specs.Answers.{Framed, frame_answer}
use Rattle.ads7953_list.specs.Answers.{ListPlanned, list_answer}
use Rattle.flat_ads7953.specs.declared.FlatAds7953.{FlatAds7953}
use Rattle.flat_ads7953.specs.Flat.{is_part, part_of, part_in}
use Rattle.flat_ads7953.proofs.RoundTrip.{round_trip}
use Rattle.capi_ads7953.specs.Answers.{framed_from, list_planned_from, list_buffer_from, flat_frame_answer, flat_list_answer}

abbrev is_ok : {A : Type 0} → Result A Refusal → Bool
is_ok (Ok x) = true
is_ok (Err e) = false

module _ (f : FlatAds7953) where
  -- bytes that give a state stand for it
  pub record Stands (s : Ads7953) : Type 0 where
    pub is : is_part f ≡ true
    pub same : s ≡ part_of f

  pub stands : (s : Ads7953) → Ok s ≡ part_in f → Stands s
  unfolding part_in
  stands s e =
      split (is_part f)
      (λ v. record { is = v; same = ap (λ (r : Result Ads7953 Refusal). result_unwrap_or r s) (rw v at e) })
      (λ v. absurd (false≢true (sym (ap is_ok (rw v at e)))))

  -- bytes that give none are refused by 13
  pub record None (e : Refusal) : Type 0 where
    pub not : is_part f ≡ false
    pub number : number_of e ≡ invalid_state

  pub stands_not : (e : Refusal) → Err e ≡ part_in f → None e
  unfolding part_in
  stands_not e h =
      split (is_part f)
      (λ v. absurd (false≢true (ap is_ok (rw v at h))))
      (λ v. record { not = v; number = ap answer_number (rw v at h) })

  pub frame_refused : (e : Refusal) (a : Framed) → Err e ≡ part_in f → flat_frame_answer f (Err e) ≡ framed_from f a
  unfolding framed_from
  frame_refused e a h = let n = stands_not e h in rw (n.not, n.number) refl

  pub frame_judged : (s : Ads7953) (a : Framed) (r : Result Exchange Refusal) → Ok s ≡ part_in f → frame_answer s r ≡ a → flat_frame_answer f r ≡ framed_from f a
  unfolding framed_from
  frame_judged s a (Ok x) h e = let t = stands s h in rw (t.is, ← e) refl
  frame_judged s a (Err x) h e = let t = stands s h in rw (t.is, ← e, t.same, round_trip.returns_flat f t.is) refl

  pub list_refused : (e : Refusal) (a : ListPlanned) (after tx : List ℕ) → Err e ≡ part_in f
      → (flat_list_answer (Err e) ≡ list_planned_from f a) × (tx ≡ list_buffer_from f after tx)
  unfolding list_planned_from list_buffer_from
  list_refused e a after tx h = let n = stands_not e h in (rw (n.not, n.number) refl, rw n.not refl)

  pub list_judged : (s : Ads7953) (a : ListPlanned) (r : Result ℕ Refusal) → Ok s ≡ part_in f → list_answer r ≡ a → flat_list_answer r ≡ list_planned_from f a
  unfolding list_planned_from
  list_judged s a (Ok x) h e = let t = stands s h in rw (t.is, ← e) refl
  list_judged s a (Err x) h e = let t = stands s h in rw (t.is, ← e) refl

  pub buffer_judged : (s : Ads7953) (after tx : List ℕ) → Ok s ≡ part_in f → list_buffer_from f after tx ≡ after
  unfolding list_buffer_from
  buffer_judged s after tx h = let t = stands s h in rw t.is refl
