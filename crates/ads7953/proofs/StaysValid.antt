-- Every channel that a word orders, and every last channel that it programs, has four bits.
use Prim.Native.Nat.{ℕ, ◌+◌, ◌<◌}
use mathlib.Core.Bool.{true}
use mathlib.Core.Path.{◌≡◌, refl}
use native.Mathlib.Omega.{arith}
use borrow.Author.Tests.{ltb-true}
use lib.Dec.{ltb}
use Rattle.cases.proofs.Cases.{either}
use Rattle.bits.specs.Fields.{field}
use Rattle.refusal.specs.First.{accepted}
use Rattle.ads7953.specs.declared.Mode.{Mode}
use Rattle.ads7953.specs.declared.Mode.TheVariants.{Manual, Auto1, Auto2}
use Rattle.ads7953.specs.declared.words.Command.{Command}
use Rattle.ads7953.specs.declared.words.Command.TheVariants.{Continue, SelectManual, SelectAuto1, SelectAuto2, ProgramAuto1, ProgramAuto2}
use Rattle.ads7953.specs.declared.Ads7953.{Ads7953}
use Rattle.ads7953.specs.Answers.{Framed}
use Rattle.ads7953.specs.Words.{decoded, channel_in, last_in}
use Rattle.ads7953.specs.Scan.{channel_count, listed_from, lowest_listed, next_listed, next_up_to, next_in, start_in}
use Rattle.ads7953.specs.Latch.{advanced, programmed, restarts, manual_latched, auto_ordered, auto_latched, commanded, latched}
use Rattle.ads7953.specs.Frame.{powered_up, valid, frame_refusal, selected, followed, framed}
use Rattle.ads7953.specs.Claims.{PowersUpValid, StaysValid}
use Rattle.ads7953.proofs.Valid.{Parts, parts, whole}

pub powers_up_valid : PowersUpValid
unfolding valid powered_up
powers_up_valid = refl

module _ (list last present : ℕ) (p : present < channel_count) (l : last < channel_count) where
  lowest_low : lowest_listed list present < channel_count
  unfolding lowest_listed
  lowest_low = either (λ (n : ℕ). n < channel_count) (ltb (listed_from list 0) channel_count) (ltb-true _ _) (λ e. p)

  next_low : (mode : Mode) → next_in mode list last present < channel_count
  unfolding next_listed next_up_to
  next_low Manual = p
  next_low Auto1 = either (λ (n : ℕ). n < channel_count) (ltb (listed_from list (present + 1)) channel_count) (ltb-true _ _) (λ e. lowest_low)
  next_low Auto2 = either (λ (n : ℕ). n < channel_count) (ltb present last) (λ e. omega (arith, ltb-true present last e)) (λ e. omega arith)

  start_low : (mode : Mode) → start_in mode list present < channel_count
  start_low Manual = p
  start_low Auto1 = lowest_low
  start_low Auto2 = omega arith

pub advanced_valid : (s : Ads7953) → Parts s → Parts (advanced s)
unfolding advanced
advanced_valid s p = record { channel = p.channel; ordered = next_low s.list s.last s.ordered p.ordered p.last s.mode; last = p.last }

auto_valid : (s : Ads7953) (mode : Mode) (w : ℕ) → Parts s → Parts (auto_latched s mode w)
unfolding auto_latched auto_ordered programmed
auto_valid s mode w p =
    record {
      channel = p.channel;
      ordered = either (λ (n : ℕ). n < channel_count) (restarts (programmed s w) mode)
          (λ e. start_low s.list s.last s.ordered p.ordered p.last mode)
          (λ e. next_low s.list s.last s.ordered p.ordered p.last mode);
      last = p.last;
    }

commanded_valid : (c : Command) (s : Ads7953) (w : ℕ) → Parts s → Parts (commanded c s w)
unfolding commanded manual_latched channel_in last_in field
commanded_valid Continue s w p = advanced_valid s p
commanded_valid SelectManual s w p = record { channel = p.channel; ordered = omega arith; last = p.last }
commanded_valid SelectAuto1 s w p = auto_valid s Auto1 w p
commanded_valid SelectAuto2 s w p = auto_valid s Auto2 w p
commanded_valid ProgramAuto1 s w p = advanced_valid _ (record { channel = p.channel; ordered = p.ordered; last = p.last })
commanded_valid ProgramAuto2 s w p = advanced_valid _ (record { channel = p.channel; ordered = p.ordered; last = omega arith })

pub latched_valid : (s : Ads7953) (w : ℕ) → Parts s → Parts (latched s w)
unfolding latched
latched_valid s w p =
    either Parts s.programming
    (λ e. advanced_valid _ (record { channel = p.channel; ordered = p.ordered; last = p.last }))
    (λ e. commanded_valid (decoded w) s w p)

pub followed_valid : (s : Ads7953) (w : ℕ) → Parts s → Parts (followed s w)
unfolding followed selected
followed_valid s w p = latched_valid _ w (record { channel = p.ordered; ordered = p.ordered; last = p.last })

pub stays_valid : StaysValid
unfolding framed
stays_valid s w code v =
    either (λ (r : Framed). valid r.next ≡ true) (accepted (frame_refusal s code)) (λ e. whole _ (followed_valid s w (parts s v))) (λ e. v)
