-- The reading's number, which goes by the mapping, is that of the refusals as they are worded.
use Prim.Native.Nat.{ℕ}
use mathlib.Core.Path.{◌≡◌, sym, ◌∙◌, ap}
use mathlib.Core.Bool.{Bool, true, ◌&&◌, false≢true}
use mathlib.Core.List.{List}
use lib.Dec.{eqb}
use Rattle.cases.proofs.Cases.{split, and_both}
use Rattle.refusal.specs.First.{first_of}
use Rattle.parties.specs.Owners.{owner_of, owns}
use Rattle.ads1299_registers.specs.Channels.{is_channel}
use Rattle.readings.specs.Answers.{Reading}
use Rattle.readings.specs.Reading.{reading_refusal, channel_reading}
use Rattle.readings.proofs.Refusals.{reading_number}
use Rattle.lines.specs.Lines.{is_converter, converter_of, local_channel, channel_on}
use Rattle.lines.specs.Ranges.{is_bench_channel, has_channel}
use Rattle.lines.proofs.Numbering.{below_four}
use Rattle.lines.proofs.Ranges.{channels_on}
use Rattle.bench.specs.declared.Bench.{Bench}
use Rattle.bench.specs.Bench.{at, valid_bench, bench_owners}
use Rattle.bench.specs.Formed.{FormedBench}
use Rattle.bench.proofs.Converters.{each_valid}
use Rattle.bench.proofs.Owners.{owner_at}
use Rattle.bench_readings.specs.Reading.{bench_reading, bench_reading_refusals}
use Rattle.bench_readings.specs.Claims.{ReadingsAsWorded}

-- a channel that is there is counted as its own converter counts it
counted_so : (k n : ℕ) → is_channel (channel_on k n) ≡ true → channel_on k n ≡ local_channel n
unfolding channel_on
counted_so k n e = split (eqb (converter_of n) k) (λ q. rw q) (λ q. absurd (false≢true (rw q at e)))

module _ (b : Bench) (f : FormedBench b) (v : valid_bench b ≡ true) (k party n : ℕ) (frame : List ℕ) where
  abbrev there : Bool
  there = is_converter k && is_bench_channel n && has_channel k n

  same_owner : there ≡ true → owns (at b (converter_of n)).owners party (channel_on k n) ≡ owns (bench_owners b) party n
  unfolding owns
  same_owner e =
      let channel = (and_both (is_converter k) (is_bench_channel n) (and_both (is_converter k && is_bench_channel n) (has_channel k n) e).0).1 in
      ap (eqb party) (ap (owner_of (at b (converter_of n)).owners) (counted_so k n (channels_on k n ∙ e)) ∙ sym (owner_at b f n channel))

  worded : reading_refusal (at b (converter_of n)) party (channel_on k n) frame ≡ first_of (bench_reading_refusals b k party n frame)
  unfolding reading_refusal
  worded =
      split there
      (λ e. rw (v, each_valid b v (converter_of n) (below_four n), channels_on k n, e, same_owner e))
      (λ e. rw (v, each_valid b v (converter_of n) (below_four n), channels_on k n, e))

-- a bench that passes 13 has the channel's converter answer
pub reading_is : (b : Bench) → valid_bench b ≡ true → (k party n : ℕ) (frame : List ℕ)
    → bench_reading b k party n frame ≡ channel_reading (at b (converter_of n)) party (channel_on k n) frame
unfolding bench_reading
reading_is b v k party n frame = rw v

pub readings_as_worded : ReadingsAsWorded
unfolding bench_reading
readings_as_worded b f k party n frame =
    split (valid_bench b)
    (λ v.
    ap (λ (a : Reading). a.refusal) (reading_is b v k party n frame)
    ∙ reading_number (at b (converter_of n)) party (channel_on k n) frame ∙ worded b f v k party n frame)
    (λ v. rw v)
