-- What is claimed of the converter beyond its functions' contracts.
use Rattle.std.specs.Prelude.{ℕ, ◌+◌, ◌≤◌, true, List, ◌≡◌, ℤ, replicate, None}
use Rattle.refusal.specs.Numbers.{none}
use Rattle.ads1299.specs.declared.Converter.{Converter}
use Rattle.ads1299_serial.specs.declared.Phase.TheVariants.{Waiting}
use Rattle.ads1299_serial.specs.Transfers.{most_registers}
use Rattle.ads1299.specs.State.{moved}
use Rattle.ads1299.specs.PowerUp.{powered_up}
use Rattle.ads1299.specs.Validity.{valid}
use Rattle.ads1299.specs.Step.{stepped}
use Rattle.ads1299.specs.Deselect.{deselected}
use Rattle.ads1299.specs.Sample.{sampled}
use Rattle.ads1299.specs.Run.{after}

-- A power-up that is accepted gives a state that passes 13.
abbrev pub PowersUpValid : Type 0
PowersUpValid = (id : ℕ) → (powered_up id).refusal ≡ none → valid (powered_up id).converter ≡ true

-- every byte, select rise and sample leads to a state that passes 13
pub record NextValid (s : Converter) : Type 0 where
  pub by_byte : (b : ℕ) → valid (stepped s b).next ≡ true
  pub by_deselect : valid (deselected s).next ≡ true
  pub by_sample : (codes : List ℤ) (p n : ℕ) → valid (sampled s codes p n).next ≡ true

-- A state that passes 13 leads only to states that pass it.
abbrev pub StaysValid : Type 0
StaysValid = (s : Converter) → valid s ≡ true → NextValid s

-- some number of zero bytes, at most 32, brings the converter back to waiting, and it stays there however many follow
pub record LedToWaiting (s : Converter) : Type 0 where
  pub count : ℕ
  pub few : count ≤ most_registers
  pub waits : (more : ℕ) → (after s (replicate (count + more) 0)).phase ≡ Waiting

-- Wherever a converter stands, at most 32 zero bytes bring it back to waiting.
abbrev pub ReachesWaiting : Type 0
ReachesWaiting = (s : Converter) → valid s ≡ true → LedToWaiting s

-- A select rise changes nothing where the converter waits with nothing pending.
abbrev pub IdleDeselect : Type 0
IdleDeselect = (s : Converter) → valid s ≡ true → s.phase ≡ Waiting → s.output ≡ None → deselected s ≡ moved none s
