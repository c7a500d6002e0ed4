-- A reading depends on nothing but what `Alike` lists.
use Prim.Native.Nat.{ℕ}
use mathlib.Core.Path.{◌≡◌}
use mathlib.Core.List.{List}
use Rattle.ads1299_readout.proofs.Reading.{local_reading}
use Rattle.ads1299.specs.declared.Converter.{Converter}
use Rattle.readings.specs.Reading.{reading_refusal, channel_reading, part_bytes, part_place}
use Rattle.readings.specs.Claims.{Alike, EqualReadings}

module _ (s t : Converter) (party channel : ℕ) (first second : List ℕ) where
  same_refusal : Alike s t channel first second → reading_refusal s party channel first ≡ reading_refusal t party channel second
  unfolding reading_refusal
  same_refusal a = simp (a.s_valid, a.t_valid, a.owners, local_reading.framed first second a.lengths a.marks)

pub equal_readings : EqualReadings
unfolding channel_reading part_bytes part_place
equal_readings s t party channel first second a =
    let same = same_refusal s t party channel first second a in
    record {
      readings = simp (same, local_reading.coded first second channel a.bytes, local_reading.railed first second channel a.bytes, a.p_bits, a.n_bits);
      parts = simp (same, a.bytes);
      places = simp same;
    }
