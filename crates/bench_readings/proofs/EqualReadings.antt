-- A reading on the bench depends on nothing but what `Alike` lists: the channel's converter answers it.
use Prim.Native.Nat.{ℕ}
use mathlib.Core.List.{List}
use Rattle.readings.specs.Claims as one
use Rattle.readings.proofs.EqualReadings as single
use Rattle.lines.specs.Lines.{converter_of, channel_on}
use Rattle.lines.proofs.Numbering.{below_four}
use Rattle.bench.specs.declared.Bench.{Bench}
use Rattle.bench.specs.Bench.{at}
use Rattle.bench.proofs.Converters.{each_valid}
use Rattle.bench_readings.specs.Reading.{bench_reading, bench_part_bytes, bench_part_place}
use Rattle.bench_readings.specs.Claims.{Alike, EqualReadings}

on_converter : (b d : Bench) (k n : ℕ) (first second : List ℕ) → Alike b d k n first second
    → one.Alike (at b (converter_of n)) (at d (converter_of n)) (channel_on k n) first second
on_converter b d k n first second a =
    record {
      s_valid = each_valid b a.b_valid (converter_of n) (below_four n);
      t_valid = each_valid d a.d_valid (converter_of n) (below_four n);
      owners = a.owners;
      lengths = a.lengths;
      marks = a.marks;
      bytes = a.bytes;
      p_bits = a.p_bits;
      n_bits = a.n_bits;
    }

pub equal_readings : EqualReadings
unfolding bench_reading bench_part_bytes bench_part_place
equal_readings b d k party n first second a =
    let e = single.equal_readings (at b (converter_of n)) (at d (converter_of n)) party (channel_on k n) first second (on_converter b d k n first second a) in
    record {
      readings = rw (a.b_valid, a.d_valid) e.readings;
      parts = rw (a.b_valid, a.d_valid) e.parts;
      places = rw (a.b_valid, a.d_valid) e.places;
    }
