-- What is claimed of the part beyond the contracts.
use Rattle.std.specs.Prelude.{ℕ, ◌*◌, ◌/◌, Bool, true, false, [], ◌∷◌, ◌≡◌, eqb}
use Rattle.cases.specs.Every.{any_of}
use Rattle.ads7953.specs.declared.words.Command.TheVariants.{SelectManual, ProgramAuto2}
use Rattle.ads7953.specs.declared.Ads7953.{Ads7953}
use Rattle.ads7953.specs.Words.{MANUAL, AUTO1, AUTO2, PROGRAM_AUTO1, PROGRAM_AUTO2, top, decoded, programs}
use Rattle.ads7953.specs.Latch.{latched}
use Rattle.ads7953.specs.Frame.{powered_up, valid, framed}

-- Power-up gives a state that passes 13.
abbrev pub PowersUpValid : Type 0
PowersUpValid = valid powered_up ≡ true

-- A frame leads from a state that passes 13 to another, whatever its word and code.
abbrev pub StaysValid : Type 0
StaysValid = (s : Ads7953) (w code : ℕ) → valid s ≡ true → valid (framed s w code).next ≡ true

-- what a word leaves as it was: the range and the counter reset where DI11 is 0 and where the word is a list, the counter reset by a
-- manual word too; the list but by a list; the last channel but by the word that programs it
pub record Retained (s : Ads7953) (w : ℕ) : Type 0 where
  pub range2 : programs w ≡ false → (latched s w).range2 ≡ s.range2
  pub reset : programs w ≡ false → (latched s w).reset ≡ s.reset
  pub by_list : s.programming ≡ true → ((latched s w).range2 ≡ s.range2) × ((latched s w).reset ≡ s.reset)
  pub by_manual : decoded w ≡ SelectManual → (latched s w).reset ≡ s.reset
  pub list : s.programming ≡ false → (latched s w).list ≡ s.list
  pub last : (decoded w ≡ ProgramAuto2 → ⊥) → (latched s w).last ≡ s.last

-- Settings are retained but where a word programs them.
abbrev pub SettingsRetained : Type 0
SettingsRetained = (s : Ads7953) (w : ℕ) → Retained s w

-- the top four bits are one of the five numbers that have a meaning; those left are 0, 4 to 7, and 10 to 15
abbrev pub is_wanted : ℕ → Bool
is_wanted w = any_of (λ (number : ℕ). eqb (top w) number) (MANUAL ∷ AUTO1 ∷ AUTO2 ∷ PROGRAM_AUTO1 ∷ PROGRAM_AUTO2 ∷ [])

-- A word that is no list and whose top four bits have no meaning acts as 0000h.
abbrev pub UnwantedContinue : Type 0
UnwantedContinue = (s : Ads7953) (w : ℕ) → s.programming ≡ false → is_wanted w ≡ false → latched s w ≡ latched s 0

-- Nothing looks at the low six bits of a word that is no list, DI05 and DI04 among them: it does what it does with 0 there.
abbrev pub LowBitsUnread : Type 0
LowBitsUnread = (s : Ads7953) (w : ℕ) → s.programming ≡ false → latched s (w / 64 * 64) ≡ latched s w
