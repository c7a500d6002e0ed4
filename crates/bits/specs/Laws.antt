-- What is claimed of fields, once over place and width.
use Rattle.std.specs.Prelude.{ℕ, ◌+◌, ◌-◌, ◌^◌, ◌≤◌, ◌<◌, cond, ◌≡◌}
use Rattle.bits.specs.Fields.{field, bit, inserted, masked}

-- the field reads as its value, every field beside it reads as before, and a number of n bits stays one
pub record Replaced (b p w v : ℕ) : Type 0 where
  pub value : field (inserted b p w v) p w ≡ v
  pub above : (q u : ℕ) → w + p ≤ q → field (inserted b p w v) q u ≡ field b q u
  pub below : (q u : ℕ) → u + q ≤ p → field (inserted b p w v) q u ≡ field b q u
  pub small : (n : ℕ) → w + p ≤ n → b < 2 ^ n → inserted b p w v < 2 ^ n

-- A value that fits a field replaces it, and nothing beside it.
abbrev pub FieldsReplaced : Type 0
FieldsReplaced = (b p w v : ℕ) → v < 2 ^ w → Replaced b p w v

-- A write through a mask takes the new byte's bits where the mask has them, and the old byte's elsewhere.
abbrev pub MasksSelect : Type 0
MasksSelect =
    (old mask new : ℕ) → mask < 256
    → (i : ℕ) → i < 8 → field (masked old mask new) i 1 ≡ cond (bit mask i) (field new i 1) (field old i 1)

-- the mask has every bit of the field
abbrev pub Covers : ℕ → ℕ → ℕ → Type 0
Covers mask p w = field mask p w ≡ 2 ^ w - 1

-- A write through a mask that has the whole field sets the field and nothing else.
abbrev pub CoveredPasses : Type 0
CoveredPasses =
    (b p w v mask : ℕ) → b < 256 → mask < 256 → v < 2 ^ w → w + p ≤ 8
    → Covers mask p w → masked b mask (inserted b p w v) ≡ inserted b p w v
