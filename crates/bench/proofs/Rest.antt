-- What is for one converter leaves the rest: over its number.
use Prim.Native.Nat.{ℕ, zero, suc}
use mathlib.Core.Path.{◌≡◌, refl, ap}
use mathlib.Core.List.{List, [], ◌∷◌, map, flatten}
use lib.IntN.{ℤ}
use lib.ListN.{get_or, set}
use Rattle.cases.proofs.Cases.{split}
use Rattle.refusal.specs.First.{accepted}
use Rattle.ads1299_commands.specs.declared.Command.{Command}
use Rattle.ads1299_commands.specs.declared.Command.TheVariants.{Wakeup, Standby, Reset, Start, Stop, Rdatac, Sdatac, Rdata, Rreg, Wreg, Unlisted}
use Rattle.ads1299_commands.specs.Commands.{decoded, acts}
use Rattle.ads1299_serial.specs.declared.Direction.{Direction}
use Rattle.ads1299_serial.specs.declared.Direction.TheVariants.{Read, Write}
use Rattle.ads1299_serial.specs.declared.Transfer.{Transfer}
use Rattle.ads1299_serial.specs.declared.Phase.{Phase}
use Rattle.ads1299_serial.specs.declared.Phase.TheVariants.{Waiting, Held, Counting}
use Rattle.ads1299.specs.declared.Converter.{Converter}
use Rattle.ads1299.specs.PowerUp.{restored}
use Rattle.ads1299.specs.Output.{emptied, loaded, ignored}
use Rattle.ads1299.specs.Validity.{valid}
use Rattle.ads1299.specs.Step.{effect, commanded, counted_in, counted, followed_in, followed, stepped}
use Rattle.ads1299.specs.Deselect.{deselected}
use Rattle.ads1299.specs.Sample.{sample_refusal, framed, taken, sampled}
use Rattle.bench.specs.declared.Bench.{Bench}
use Rattle.bench.specs.Bench.{blank, at, with_converter}
use Rattle.bench.specs.Line.{line_refusal, bench_stepped, bench_deselected, bench_sampled}
use Rattle.bench.specs.Claims.{LeavesRest, RestStays}
use Rattle.bench.proofs.Converters.{at_other}

-- a byte keeps the owners
effect_owners : (c : Command) (s : Converter) → (effect c s).owners ≡ s.owners
unfolding effect restored loaded
effect_owners Wakeup s = refl
effect_owners Standby s = refl
effect_owners Reset s = refl
effect_owners Start s = refl
effect_owners Stop s = refl
effect_owners Rdatac s = refl
effect_owners Sdatac s = refl
effect_owners Rdata s = refl
effect_owners (Rreg a) s = refl
effect_owners (Wreg a) s = refl
effect_owners Unlisted s = refl

counted_owners : (d : Direction) (s : Converter) (t : Transfer) (y : ℕ) → (counted_in d s t y).owners ≡ s.owners
counted_owners Read s t y = refl
counted_owners Write s t y = refl

followed_owners : (p : Phase) (s : Converter) (y : ℕ) → (followed_in p s y).owners ≡ s.owners
unfolding commanded counted ignored emptied
followed_owners Waiting s y =
    split (acts (decoded y) s.standby s.continuous s.converting) (λ e. rw e (effect_owners (decoded y) (emptied s))) (λ e. rw e)
followed_owners (Held t) s y = refl
followed_owners (Counting t) s y = counted_owners t.direction s t y

stepped_owners : (s : Converter) (y : ℕ) → (stepped s y).next.owners ≡ s.owners
unfolding stepped followed
stepped_owners s y = split (valid s) (λ e. rw e (followed_owners s.phase s y)) (λ e. rw e)

deselected_owners : (s : Converter) → (deselected s).next.owners ≡ s.owners
unfolding deselected emptied
deselected_owners s = split (valid s) (λ e. rw e) (λ e. rw e)

sampled_owners : (s : Converter) (codes : List ℤ) (p n : ℕ) → (sampled s codes p n).next.owners ≡ s.owners
unfolding sampled taken framed loaded
sampled_owners s codes p n =
    split (accepted (sample_refusal s codes)) (λ e. rw e (split s.continuous (λ c. rw c) (λ c. rw c))) (λ e. rw e)

-- a converter replaced by one with the same owners
abbrev owners_of : List Converter → List (List ℕ)
owners_of l = map (λ (c : Converter). c.owners) l

same_owners : (l : List Converter) (k : ℕ) (c : Converter) → c.owners ≡ (get_or l k blank).owners → owners_of (set l k c) ≡ owners_of l
same_owners [] k c e = refl
same_owners (x ∷ l) zero c e = ap (λ (w : List ℕ). w ∷ owners_of l) e
same_owners (x ∷ l) (suc k) c e = ap (λ (rest : List (List ℕ)). x.owners ∷ rest) (same_owners l k c e)

leaves : (b : Bench) (k : ℕ) (c : Converter) → c.owners ≡ (at b k).owners → LeavesRest b (with_converter b k c) k
leaves b k c e =
    record { others = at_other b k c; owners = ap (λ (w : List (List ℕ)). flatten w) (same_owners b.converters k c e) }

unchanged : (b : Bench) (k : ℕ) → LeavesRest b b k
unchanged b k = record { others = λ j ne. refl; owners = refl }

pub rest_stays : RestStays
unfolding bench_stepped bench_deselected bench_sampled
rest_stays =
    record {
      by_byte = λ b k byte.
          split (accepted (line_refusal b k)) (λ e. rw e (leaves b k _ (stepped_owners (at b k) byte))) (λ e. rw e (unchanged b k));
      by_deselect = λ b k.
          split (accepted (line_refusal b k)) (λ e. rw e (leaves b k _ (deselected_owners (at b k)))) (λ e. rw e (unchanged b k));
      by_sample = λ b k codes p n.
          split (accepted (line_refusal b k)) (λ e. rw e (leaves b k _ (sampled_owners (at b k) codes p n))) (λ e. rw e (unchanged b k));
    }
