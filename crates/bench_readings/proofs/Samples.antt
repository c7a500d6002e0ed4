-- A sample on the bench reads back as its converter reads it back.
use Prim.Native.Nat.{ℕ}
use mathlib.Core.Path.{◌≡◌, refl, sym, ◌∙◌}
use mathlib.Core.Bool.{true}
use mathlib.Core.List.{List}
use borrow.Author.Tests.{eq-eqb, eqb-true, eqb-false}
use lib.IntN.{ℤ}
use Rattle.cases.proofs.Cases.{split}
use Rattle.refusal.specs.Numbers.{none}
use Rattle.refusal.specs.First.{accepted}
use Rattle.parties.specs.Owners.{owner_of}
use Rattle.ads1299_registers.proofs.Bounds.{bounds}
use Rattle.ads1299.specs.declared.Converter.{Converter}
use Rattle.ads1299.specs.Sample.{sampled}
use Rattle.ads1299.proofs.StaysValid.{stays_valid}
use Rattle.readings.specs.Reading.{channel_reading, part_bytes}
use Rattle.readings.specs.Claims.{ReadsZero}
use Rattle.readings.proofs.Samples as single
use Rattle.lines.specs.Lines.{converter_of, local_channel, channel_on, bench_channel}
use Rattle.lines.proofs.Numbering.{converter_back, channel_back}
use Rattle.lines.proofs.Ranges.{channels}
use Rattle.bench.specs.declared.Bench.{Bench}
use Rattle.bench.specs.Bench.{at, with_converter, valid_bench, bench_owners}
use Rattle.bench.specs.Line.{line_refusal, bench_sampled}
use Rattle.bench.proofs.Line.{clear}
use Rattle.bench.proofs.Converters.{at_same, each_valid, with_valid}
use Rattle.bench.proofs.Owners.{owner_at}
use Rattle.bench_readings.specs.Reading.{bench_reading, bench_part_bytes}
use Rattle.bench_readings.specs.Claims.{SamplesReadBack, PoweredDownReadsZero}

module _ (b : Bench) (k : ℕ) (codes : List ℤ) (p q : ℕ) where
  abbrev u : Converter
  u = (sampled (at b k) codes p q).next

  line_clear : (bench_sampled b k codes p q).refusal ≡ none → accepted (line_refusal b k) ≡ true
  unfolding bench_sampled
  line_clear e = split (accepted (line_refusal b k)) (λ a. a) (λ a. absurd (eqb-false _ _ a (rw a at e)))

  taken : (e : (bench_sampled b k codes p q).refusal ≡ none) → (sampled (at b k) codes p q).refusal ≡ none
  unfolding bench_sampled
  taken e = rw (line_clear e) at e

  next_is : (bench_sampled b k codes p q).refusal ≡ none → (bench_sampled b k codes p q).next ≡ with_converter b k u
  unfolding bench_sampled
  next_is e = rw (line_clear e)

counted : (k m : ℕ) → converter_of (bench_channel k m) ≡ k → local_channel (bench_channel k m) ≡ m → channel_on k (bench_channel k m) ≡ m
unfolding channel_on
counted k m converter channel = rw (converter, eq-eqb k k refl, channel)

module _ (b : Bench) (k m : ℕ) (party : ℕ) (v : valid_bench b ≡ true) (converter : converter_of (bench_channel k m) ≡ k) (channel : local_channel (bench_channel k m) ≡ m) where
  channel_is : channel_on k (bench_channel k m) ≡ m
  channel_is = counted k m converter channel

  pub read_is : (frame : List ℕ) → bench_reading b k party (bench_channel k m) frame ≡ channel_reading (at b k) party m frame
  unfolding bench_reading
  read_is frame = rw (v, converter, channel_is)

  pub part_is : (frame : List ℕ) → bench_part_bytes b k party (bench_channel k m) frame ≡ part_bytes (at b k) party m frame
  unfolding bench_part_bytes
  part_is frame = rw (v, converter, channel_is)

pub samples_read_back : SamplesReadBack
samples_read_back b f k codes p q m hp hq e c =
    let l = clear b k (eqb-true _ _ (line_clear b k codes p q e)) in
    let high = (bounds m c).high in
    let converter = converter_back k m l.number high in
    let channel = channel_back k m l.number high in
    let s = at b k in
    let w = (sampled s codes p q).next in
    let same = at_same b k f.size l.number w in
    let next_valid = with_valid b l.state k l.number w ((stays_valid s (each_valid b l.state k l.number)).by_sample codes p q) in
    let there = rw channel at (channels (bench_channel k m)) in
    let owner : owner_of (bench_owners b) (bench_channel k m) ≡ owner_of s.owners m =
    owner_at b f (bench_channel k m) (sym there ∙ c) ∙ rw (converter, channel) in
    let back = single.samples_read_back s codes p q m (f.each k l.number).registers.bytes hp hq (taken b k codes p q e) c in
    rw (next_is b k codes p q e, owner) (record {
      read = read_is (with_converter b k w) k m (owner_of s.owners m) next_valid converter channel (at (with_converter b k w) k).latest ∙ rw same back.read;
      part = part_is (with_converter b k w) k m (owner_of s.owners m) next_valid converter channel (at (with_converter b k w) k).latest ∙ rw same back.part;
    })

-- a reading of what reads 0 on every converter
zero_read : (d : Bench) (k party n : ℕ) (frame : List ℕ) → ((s : Converter) → ReadsZero (channel_reading s party (channel_on k n) frame))
    → ReadsZero (bench_reading d k party n frame)
unfolding bench_reading
zero_read d k party n frame zero =
    split (valid_bench d) (λ v. rw v (zero (at d (converter_of n)))) (λ v. rw v (record { code = refl; rail = refl }))

pub powered_down_reads_zero : PoweredDownReadsZero
powered_down_reads_zero b f k codes p q m e c down d party =
    let l = clear b k (eqb-true _ _ (line_clear b k codes p q e)) in
    let high = (bounds m c).high in
    let channel = counted k m (converter_back k m l.number high) (channel_back k m l.number high) in
    let s = at b k in
    let same = at_same b k f.size l.number (sampled s codes p q).next in
    zero_read d k party (bench_channel k m) (at (bench_sampled b k codes p q).next k).latest
    (λ t. rw (channel, next_is b k codes p q e, same) (single.powered_down_reads_zero s codes p q m (taken b k codes p q e) c down t party))
