-- Numbers and the converters' own channels, by tests that are computed over all of them.
use Prim.Native.Nat.{ℕ, ◌≤◌, ◌<◌}
use mathlib.Core.Path.{◌≡◌, refl}
use mathlib.Core.Bool.{Bool, true, ◌&&◌}
use native.Mathlib.Omega.{arith}
use borrow.Author.Tests.{eqb-true, leb-true, lt-leb}
use lib.Dec.{eqb, leb}
use Rattle.cases.specs.Below.{below}
use Rattle.cases.proofs.Below.{below_at}
use Rattle.cases.proofs.Cases.{split, and_both}
use Rattle.ads1299_registers.specs.Addresses.{channel_count}
use Rattle.lines.specs.Lines.{converter_count, last_channel, last_number, no_channel, converter_of, local_channel, bench_channel}
use Rattle.lines.specs.Claims.{Numbering}

pub below_four : (n : ℕ) → converter_of n < converter_count
unfolding converter_of
below_four n =
    split (leb n last_channel)
    (λ e. let h = leb-true n last_channel e in rw e (omega arith))
    (λ e. split (leb n last_number) (λ q. let h = leb-true n last_number q in rw (e, q) (omega arith)) (λ q. rw (e, q) (omega arith)))

pub mapped_below : (k n : ℕ) → k ≡ converter_of n → k < converter_count
mapped_below k n e = rw e (below_four n)

-- a number that names no converter
pub beyond : (n : ℕ) → last_number < n → local_channel n ≡ no_channel
unfolding local_channel
beyond n h = rw (lt-leb n last_channel (omega arith), lt-leb n last_number (omega arith))

abbrev comes_back : ℕ → ℕ → Bool
comes_back k m = eqb (converter_of (bench_channel k m)) k && eqb (local_channel (bench_channel k m)) m

all_come_back : below 4 (λ k. below 9 (comes_back k)) ≡ true
unfolding converter_of local_channel bench_channel
all_come_back = refl

module _ (k m : ℕ) (hk : k < converter_count) (hm : m ≤ channel_count) where
  comes_back_lem : (eqb (converter_of (bench_channel k m)) k ≡ true) × (eqb (local_channel (bench_channel k m)) m ≡ true)
  comes_back_lem = and_both _ _ (below_at 9 (comes_back k) (below_at 4 (λ k. below 9 (comes_back k)) all_come_back k hk) m (omega arith))

  pub converter_back : converter_of (bench_channel k m) ≡ k
  converter_back = eqb-true _ _ comes_back_lem.0

  pub channel_back : local_channel (bench_channel k m) ≡ m
  channel_back = eqb-true _ _ comes_back_lem.1

abbrev goes_back : ℕ → Bool
goes_back n = eqb (bench_channel (converter_of n) (local_channel n)) n

all_go_back : below 36 goes_back ≡ true
unfolding converter_of local_channel bench_channel
all_go_back = refl

pub number_back : (n : ℕ) → n ≤ last_number → bench_channel (converter_of n) (local_channel n) ≡ n
number_back n h = eqb-true _ _ (below_at 36 goes_back all_go_back n (omega arith))

pub numbering : Numbering
numbering =
    record {
      below_four = below_four;
      converter_back = converter_back;
      channel_back = channel_back;
      number_back = number_back;
      beyond = beyond;
    }
