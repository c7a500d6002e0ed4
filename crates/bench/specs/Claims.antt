-- What is claimed of the bench beyond its functions' contracts.
use Rattle.std.specs.Prelude.{ℕ, ◌+◌, ◌<◌, ◌≡◌, true, List, ℤ, replicate, None}
use Rattle.refusal.specs.Numbers.{none}
use Rattle.ads1299_serial.specs.declared.Phase.TheVariants.{Waiting}
use Rattle.ads1299_serial.specs.Transfers.{most_registers}
use Rattle.ads1299.specs.Run.{after}
use Rattle.parties.specs.Owners.{owner_of}
use Rattle.lines.specs.Lines.{converter_count, converter_of, local_channel}
use Rattle.lines.specs.Ranges.{is_bench_channel}
use Rattle.bench.specs.declared.Bench.{Bench}
use Rattle.bench.specs.Bench.{at, valid_bench, bench_owners}
use Rattle.bench.specs.Formed.{FormedBench}
use Rattle.bench.specs.PowerUp.{bench_powered_up}
use Rattle.bench.specs.Line.{bench_moved, bench_stepped, bench_deselected, bench_sampled}
use Rattle.bench.specs.Run.{bytes_for, bytes_to, bench_after}

-- The owner of each of the 32 channels is its owner in its own converter's list of eight.
abbrev pub OwnerAt : Type 0
OwnerAt =
    (b : Bench) → FormedBench b → (n : ℕ) → is_bench_channel n ≡ true
    → owner_of (bench_owners b) n ≡ owner_of (at b (converter_of n)).owners (local_channel n)

-- from one bench to the next, every converter but k is as it was, and so is every channel's owner
pub record LeavesRest (b next : Bench) (k : ℕ) : Type 0 where
  pub others : (j : ℕ) → (j ≡ k → ⊥) → at next j ≡ at b j
  pub owners : bench_owners next ≡ bench_owners b

-- What comes for a converter, whatever its number, leaves the rest as it was: a byte, a select rise and a sample.
pub record RestStays : Type 0 where
  pub by_byte : (b : Bench) (k byte : ℕ) → LeavesRest b (bench_stepped b k byte).next k
  pub by_deselect : (b : Bench) (k : ℕ) → LeavesRest b (bench_deselected b k).next k
  pub by_sample : (b : Bench) (k : ℕ) (codes : List ℤ) (p n : ℕ) → LeavesRest b (bench_sampled b k codes p n).next k

-- Whatever bytes come for the others in between, each converter ends as after its own bytes alone: no line rises where the next byte is for another converter.
abbrev pub LinesApart : Type 0
LinesApart =
    (b : Bench) → valid_bench b ≡ true → (bytes : List (ℕ × ℕ)) (k : ℕ) → k < converter_count
    → at (bench_after b bytes) k ≡ after (at b k) (bytes_to k bytes)

-- A power-up that is accepted gives a bench that passes 13.
abbrev pub PowersUpValid : Type 0
PowersUpValid = (ids : List ℕ) → (bench_powered_up ids).refusal ≡ none → valid_bench (bench_powered_up ids).bench ≡ true

-- every byte, select rise and sample leads to a bench that passes 13, whichever converter it is for
pub record NextValid (b : Bench) : Type 0 where
  pub by_byte : (k byte : ℕ) → valid_bench (bench_stepped b k byte).next ≡ true
  pub by_deselect : (k : ℕ) → valid_bench (bench_deselected b k).next ≡ true
  pub by_sample : (k : ℕ) (codes : List ℤ) (p n : ℕ) → valid_bench (bench_sampled b k codes p n).next ≡ true

-- A bench that passes 13 leads only to benches that pass it.
abbrev pub StaysValid : Type 0
StaysValid = (b : Bench) → valid_bench b ≡ true → NextValid b

-- 32 zero bytes on one line, or more, bring that converter back to waiting and leave the others as they were
pub record LedToWaiting (b : Bench) (k : ℕ) : Type 0 where
  pub waits : (more : ℕ) → (at (bench_after b (bytes_for k (replicate (most_registers + more) 0))) k).phase ≡ Waiting
  pub others : (count j : ℕ) → (j ≡ k → ⊥) → at (bench_after b (bytes_for k (replicate count 0))) j ≡ at b j

-- Wherever a bench's converters stand, 32 zero bytes bring the one that they are for back to waiting.
abbrev pub ReachesWaiting : Type 0
ReachesWaiting = (b : Bench) → valid_bench b ≡ true → (k : ℕ) → k < converter_count → LedToWaiting b k

-- A select rise changes nothing of a bench where the line's converter waits with nothing pending.
abbrev pub IdleDeselect : Type 0
IdleDeselect =
    (b : Bench) → valid_bench b ≡ true → (k : ℕ) → k < converter_count → (at b k).phase ≡ Waiting → (at b k).output ≡ None
    → bench_deselected b k ≡ bench_moved none b
