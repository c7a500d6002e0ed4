-- A converter that passes 13 refuses neither a byte nor a rise of its line.
use Prim.Native.Nat.{ℕ}
use mathlib.Core.Path.{◌≡◌, sym, ◌∙◌, ap}
use mathlib.Core.Bool.{true, false≢true}
use Rattle.std.specs.Prelude.{Err}
use Rattle.refusal.specs.First.{accepted}
use Rattle.refusal.specs.declared.Refusal.{Refusal}
use Rattle.refusal.proofs.Laws.{refused_lem}
use Rattle.ads1299.specs.declared.Converter.{Converter}
use Rattle.ads1299.specs.Answers.{Stepped, Moved, step_answer, moved_answer}
use Rattle.ads1299.specs.Validity.{valid}
use Rattle.ads1299.specs.Step.{stepped}
use Rattle.ads1299.specs.Deselect.{deselected}

module _ (s : Converter) (v : valid s ≡ true) (r : Refusal) where
  pub no_byte_refused : (byte : ℕ) → step_answer s (Err r) ≡ stepped s byte → ⊥
  unfolding stepped
  no_byte_refused byte e = false≢true (sym (refused_lem r) ∙ ap (λ (a : Stepped). accepted a.refusal) e ∙ rw v)

  pub no_rise_refused : moved_answer s (Err r) ≡ deselected s → ⊥
  unfolding deselected
  no_rise_refused e = false≢true (sym (refused_lem r) ∙ ap (λ (a : Moved). accepted a.refusal) e ∙ rw v)
