-- What is answered through a flat form: the call on the state that it stands for, or refusal 13.
use mathlib.Core.Path.{◌≡◌, ◌∙◌, ap}
use mathlib.Core.Bool.{Bool, true, false, cond}
use Rattle.std.specs.Prelude.{Result, Ok, Err, MatchResult}
use Rattle.cases.proofs.Cases.{split}
use Rattle.refusal.specs.declared.Refusal.{Refusal}
use Rattle.refusal.specs.declared.Refusal.TheVariants.{InvalidState}

module _ {S X A F : Type 0} (stands : Bool) (s : S) (answer : S → Result X Refusal → A) (flat_answer : Result X Refusal → F) (from : A → F) where
  -- Where the bytes stand for a state, what a call on it hands back has the flat answer that the call's answer has; where they stand for
  -- none, refusal 13 has.
  pub record Agrees : Type 0 where
    pub on_state : stands ≡ true → (r : Result X Refusal) → flat_answer r ≡ from (answer s r)
    pub on_none : stands ≡ false → (a : A) → flat_answer (Err InvalidState) ≡ from a

  pub through : Agrees → (a : S → A) (o : Result S Refusal) (r : Result X Refusal)
      → o ≡ cond stands (Ok s) (Err InvalidState) → MatchResult o (λ s. answer s r ≡ a s) (λ e. r ≡ Err e)
      → flat_answer r ≡ from (a s)
  through agrees a o r e m =
      split stands
      (λ v. agrees.on_state v r ∙ ap from (rw (e, v) at m))
      (λ v. rw (rw (e, v) at m) (agrees.on_none v (a s)))

-- a buffer that the call is lent: what it leaves, or what was there
pub buffer_through : {S B : Type 0} (stands : Bool) (s : S) (after : S → B) (old new : B) (o : Result S Refusal)
    → o ≡ cond stands (Ok s) (Err InvalidState) → MatchResult o (λ s. new ≡ after s) (λ e. new ≡ old)
    → new ≡ cond stands (after s) old
buffer_through stands s after old new o e m = split stands (λ v. rw v (rw (e, v) at m)) (λ v. rw v (rw (e, v) at m))
