-- A channel's owner reads what was sampled, and 0 where the channel was powered down.
use Prim.Native.Nat.{ℕ, ◌+◌, ◌-◌, ◌<◌}
use mathlib.Core.Path.{◌≡◌, refl, sym, ◌∙◌, ap}
use mathlib.Core.Bool.{true}
use mathlib.Core.List.{List}
use native.Mathlib.Omega.{arith}
use borrow.Author.Tests.{eqb-true, eqb-false, eq-eqb, not-false}
use lib.Dec.{leb, eqb}
use lib.IntN.{ℤ}
use lib.ListN.{length, get_or, set}
use lib.Seq.{get_or-set_other}
use Rattle.cases.proofs.Cases.{either, and_both}
use Rattle.refusal.specs.Numbers.{none}
use Rattle.refusal.specs.First.{accepted}
use Rattle.refusal.proofs.First.{exact}
use Rattle.ads1299_registers.specs.Addresses.{channel_count, CH1SET, GPIO, LOFF_STATP, LOFF_STATN}
use Rattle.ads1299_codes.specs.Codes.{all_in_range}
use Rattle.ads1299_frame.specs.Frame.{powered_down, shown, frame_of}
use Rattle.ads1299_readout.specs.Reading.{is_frame}
use Rattle.ads1299_readout.specs.RoundTrip.{ReadsBack, ShowsZero}
use Rattle.ads1299_readout.proofs.RoundTrip.{frames_read_back, powered_down_shows_zero}
use Rattle.ads1299.specs.declared.Converter.{Converter}
use Rattle.ads1299.specs.Answers.{Moved}
use Rattle.parties.specs.Parties.{largest_party}
use Rattle.ads1299.specs.Validity.{valid}
use Rattle.ads1299.specs.Output.{loaded}
use Rattle.ads1299.specs.Sample.{complete, sample_refusals, sample_refusal, with_status, framed, taken, sampled}
use Rattle.ads1299.proofs.ValidState.{parts, whole}
use Rattle.ads1299.proofs.StaysValid.{taken_valid}
use Rattle.parties.specs.Parties.{known_party}
use Rattle.parties.specs.Owners.{owner_of, owns}
use Rattle.ads1299_registers.specs.Channels.{is_channel}
use Rattle.readings.specs.Reading.{reading_refusal, channel_reading, part_bytes}
use Rattle.readings.specs.Claims.{ReadsSample, SamplesReadBack, ReadsZero, PoweredDownReadsZero}
use Rattle.ads1299_registers.proofs.Bounds.{bounds}
use Rattle.parties.proofs.Owners.{known_at}

-- P and N go to their two registers and to no other
status_other : (registers : List ℕ) (p n i : ℕ) → (i ≡ LOFF_STATP → ⊥) → (i ≡ LOFF_STATN → ⊥) → get_or (with_status registers p n) i 0 ≡ get_or registers i 0
unfolding with_status
status_other registers p n i a b = get_or-set_other (set registers LOFF_STATP p) LOFF_STATN i n 0 b ∙ get_or-set_other registers LOFF_STATP i p 0 a

-- they power no channel up or down
status_power : (registers : List ℕ) (p n channel : ℕ) → is_channel channel ≡ true → powered_down (with_status registers p n) channel ≡ powered_down registers channel
unfolding powered_down
status_power registers p n channel c =
    let b = bounds channel c in
    rw (status_other registers p n (CH1SET + (channel - 1)) (λ z. omega arith) (λ z. omega arith))

status_shown : (registers : List ℕ) (codes : List ℤ) (p n channel : ℕ) → is_channel channel ≡ true → shown (with_status registers p n) codes channel ≡ shown registers codes channel
unfolding shown
status_shown registers codes p n channel c = rw (status_power registers p n channel c)

-- the owner of a channel reads what a frame says of it
module _ (s : Converter) (party channel : ℕ) (v : valid s ≡ true) (c : is_channel channel ≡ true) (o : owner_of s.owners channel ≡ party) where
  owner_accepted : (frame : List ℕ) → is_frame frame ≡ true → reading_refusal s party channel frame ≡ none
  unfolding reading_refusal known_party owner_of owns
  owner_accepted frame f =
      let k : leb party largest_party ≡ true = rw o at (known_at s.owners (channel - 1) (parts s v).owners) in
      simp (v, k, c, eq-eqb _ _ (sym o), f)

  owner_reads : (registers : List ℕ) (codes : List ℤ) (p n : ℕ) → ReadsBack registers codes p n s.latest → ReadsSample registers codes p n party channel s
  unfolding channel_reading part_bytes
  owner_reads registers codes p n r =
      let b = bounds channel c in
      let ok = owner_accepted s.latest r.framed in
      record {
        read = simp (ok, r.coded channel b.low b.high, r.railed channel b.low b.high, r.p_bit channel, r.n_bit channel);
        part = simp (ok, r.parted channel b.low b.high);
      }

module _ (s : Converter) (codes : List ℤ) (p n : ℕ) where
  taken_owners : (taken s codes p n).owners ≡ s.owners
  unfolding taken framed loaded
  taken_owners = either (λ (x : Converter). x.owners ≡ s.owners) s.continuous (λ e. refl) (λ e. refl)

  taken_latest : (taken s codes p n).latest ≡ frame_of (with_status s.registers p n) codes p n
  unfolding taken framed loaded
  taken_latest = either (λ (x : Converter). x.latest ≡ frame_of (with_status s.registers p n) codes p n) s.continuous (λ e. refl) (λ e. refl)

  taken_reads : (channel : ℕ) → ((i : ℕ) → get_or s.registers i 0 < 256) → p < 256 → n < 256 → valid s ≡ true → complete codes ≡ true → is_channel channel ≡ true
      → ReadsSample s.registers codes p n (owner_of s.owners channel) channel (taken s codes p n)
  unfolding complete
  taken_reads channel r ps ns v all c =
      let registers = with_status s.registers p n in
      let gpio : get_or registers GPIO 0 < 256 = rw (status_other s.registers p n GPIO (λ z. omega arith) (λ z. omega arith)) (r GPIO) in
      let range = (and_both (eqb (length codes) channel_count) (all_in_range codes) all).1 in
      let back : ReadsBack registers codes p n (taken s codes p n).latest = rw taken_latest (frames_read_back registers codes p n gpio range ps ns) in
      let read = owner_reads (taken s codes p n) (owner_of s.owners channel) channel (whole _ (taken_valid s (parts s v) codes p n)) c (ap (λ (x : List ℕ). owner_of x channel) taken_owners) registers codes p n back in
      let same = status_shown s.registers codes p n channel c in
      record { read = read.read ∙ rw same; part = read.part ∙ rw same }

  taken_down : (channel : ℕ) → is_channel channel ≡ true → powered_down s.registers channel ≡ true → ShowsZero (taken s codes p n).latest channel
  taken_down channel c down =
      let b = bounds channel c in
      rw taken_latest (powered_down_shows_zero (with_status s.registers p n) codes p n channel b.low b.high (status_power s.registers p n channel c ∙ down))

  -- a sample that is accepted is taken
  is_taken : (sampled s codes p n).refusal ≡ none → (sample_refusal s codes ≡ none) × ((sampled s codes p n).next ≡ taken s codes p n)
  unfolding sampled
  is_taken =
      either (λ (m : Moved). m.refusal ≡ none → (sample_refusal s codes ≡ none) × (m.next ≡ taken s codes p n)) (accepted (sample_refusal s codes))
      (λ a z. (eqb-true _ _ a, refl))
      (λ a z. absurd (eqb-false _ _ a z))

reads_zero : (t : Converter) (party channel : ℕ) (frame : List ℕ) → ShowsZero frame channel → ReadsZero (channel_reading t party channel frame)
unfolding channel_reading
reads_zero t party channel frame z =
    either ReadsZero (accepted (reading_refusal t party channel frame)) (λ e. record { code = z.code; rail = z.rail }) (λ e. record { code = refl; rail = refl })

pub powered_down_reads_zero : PoweredDownReadsZero
powered_down_reads_zero s codes p n channel e c down t party =
    rw (is_taken s codes p n e).1 (reads_zero t party channel (taken s codes p n).latest (taken_down s codes p n channel c down))

pub samples_read_back : SamplesReadBack
unfolding sample_refusal
samples_read_back s codes p n channel r ps ns e c =
    let taken = is_taken s codes p n e in
    let off = (exact (sample_refusals s codes) refl).refuses taken.0 in
    rw taken.1 (taken_reads s codes p n channel r ps ns (not-false _ off.0) (not-false _ off.1.1.0) c)
