-- What is claimed of numbers on the bench: the mapping and the ranges say the same.
use Rattle.std.specs.Prelude.{ℕ, ◌≤◌, ◌<◌, ◌≡◌, true, ◌&&◌, ◌||◌, eqb}
use Rattle.ads1299_registers.specs.Addresses.{channel_count}
use Rattle.ads1299_registers.specs.Channels.{is_channel}
use Rattle.lines.specs.Lines.{converter_count, is_converter, last_number, no_channel, converter_of, local_channel, channel_on, bench_channel}
use Rattle.lines.specs.Ranges.{is_bench_channel, is_whole, has_channel, names}

-- The numbers up to 35 match the converters' own channels one to one, and every other number becomes a channel that no converter has.
pub record Numbering : Type 0 where
  -- a converter's number is one of four, whatever is mapped
  pub below_four : (n : ℕ) → converter_of n < converter_count
  -- there and back
  pub converter_back : (k m : ℕ) → k < converter_count → m ≤ channel_count → converter_of (bench_channel k m) ≡ k
  pub channel_back : (k m : ℕ) → k < converter_count → m ≤ channel_count → local_channel (bench_channel k m) ≡ m
  pub number_back : (n : ℕ) → n ≤ last_number → bench_channel (converter_of n) (local_channel n) ≡ n
  pub beyond : (n : ℕ) → last_number < n → local_channel n ≡ no_channel

-- By the ranges too, a number is a channel or a whole converter exactly where the mapping makes it one, and of the converter that the mapping says.
pub record RangesAgree : Type 0 where
  pub channels : (n : ℕ) → is_channel (local_channel n) ≡ is_bench_channel n
  pub wholes : (n : ℕ) → eqb (local_channel n) 0 ≡ is_whole n
  pub converters : (k n : ℕ) → is_converter k ≡ true → (is_bench_channel n || is_whole n) ≡ true → names k n ≡ eqb (converter_of n) k
  pub channels_on : (k n : ℕ) → is_channel (channel_on k n) ≡ (is_converter k && is_bench_channel n && has_channel k n)
