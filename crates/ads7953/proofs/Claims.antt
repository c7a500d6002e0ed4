-- What a word leaves as it was, and which of its bits are looked at: by cases on what it asks for.
use Prim.Native.Nat.{ℕ, ◌*◌, ◌/◌, ◌%◌}
use mathlib.Core.Bool.{Bool, true, false, cond, ◌||◌, false≢true}
use mathlib.Core.Path.{◌≡◌, refl, sym, ap, ◌∙◌}
use native.Mathlib.Omega.{arith}
use lib.Dec.{eqb}
use Rattle.cases.proofs.Cases.{either}
use Rattle.bits.specs.Fields.{field, bit}
use Rattle.ads7953.specs.declared.Mode.{Mode}
use Rattle.ads7953.specs.declared.words.Command.{Command}
use Rattle.ads7953.specs.declared.words.Command.TheVariants.{Continue, SelectManual, SelectAuto1, SelectAuto2, ProgramAuto1, ProgramAuto2}
use Rattle.ads7953.specs.declared.Ads7953.{Ads7953}
use Rattle.ads7953.specs.Words.{MANUAL, AUTO1, AUTO2, PROGRAM_AUTO1, PROGRAM_AUTO2, top, decoded, programs, retained, resets_counter, selects_range2, channel_in, last_in}
use Rattle.ads7953.specs.Latch.{advanced, programmed, manual_latched, auto_latched, commanded, latched}
use Rattle.ads7953.specs.Claims.{Retained, SettingsRetained, is_wanted, UnwantedContinue, LowBitsUnread}
use Rattle.ads7953.proofs.Latched.{as_command, zero_advances}

module _ (s : Ads7953) (w : ℕ) where
  range2_kept : (c : Command) → programs w ≡ false → (commanded c s w).range2 ≡ s.range2
  unfolding commanded advanced manual_latched auto_latched programmed retained
  range2_kept Continue e = refl
  range2_kept SelectManual e = rw e
  range2_kept SelectAuto1 e = rw e
  range2_kept SelectAuto2 e = rw e
  range2_kept ProgramAuto1 e = refl
  range2_kept ProgramAuto2 e = refl

  reset_kept : (c : Command) → programs w ≡ false → (commanded c s w).reset ≡ s.reset
  unfolding commanded advanced manual_latched auto_latched programmed retained
  reset_kept Continue e = refl
  reset_kept SelectManual e = refl
  reset_kept SelectAuto1 e = rw e
  reset_kept SelectAuto2 e = rw e
  reset_kept ProgramAuto1 e = refl
  reset_kept ProgramAuto2 e = refl

  list_kept : (c : Command) → (commanded c s w).list ≡ s.list
  unfolding commanded advanced manual_latched auto_latched programmed
  list_kept Continue = refl
  list_kept SelectManual = refl
  list_kept SelectAuto1 = refl
  list_kept SelectAuto2 = refl
  list_kept ProgramAuto1 = refl
  list_kept ProgramAuto2 = refl

  last_kept : (c : Command) → (c ≡ ProgramAuto2 → ⊥) → (commanded c s w).last ≡ s.last
  unfolding commanded advanced manual_latched auto_latched programmed
  last_kept Continue n = refl
  last_kept SelectManual n = refl
  last_kept SelectAuto1 n = refl
  last_kept SelectAuto2 n = refl
  last_kept ProgramAuto1 n = refl
  last_kept ProgramAuto2 n = absurd (n refl)

  manual_kept : (c : Command) → c ≡ SelectManual → (commanded c s w).reset ≡ s.reset
  unfolding commanded manual_latched
  manual_kept c e = rw e

  retained_by : Retained s w
  unfolding latched advanced
  retained_by =
      record {
        range2 = λ e. either (λ (t : Ads7953). t.range2 ≡ s.range2) s.programming (λ p. refl) (λ p. range2_kept (decoded w) e);
        reset = λ e. either (λ (t : Ads7953). t.reset ≡ s.reset) s.programming (λ p. refl) (λ p. reset_kept (decoded w) e);
        by_list = λ p. rw p (refl, refl);
        by_manual = λ e. either (λ (t : Ads7953). t.reset ≡ s.reset) s.programming (λ p. refl) (λ p. manual_kept (decoded w) e);
        list = λ p. ap (λ (t : Ads7953). t.list) (as_command s w p) ∙ list_kept (decoded w);
        last = λ n. either (λ (t : Ads7953). t.last ≡ s.last) s.programming (λ p. refl) (λ p. last_kept (decoded w) n);
      }

pub settings_retained : SettingsRetained
settings_retained s w = retained_by s w

-- a choice among five tests that are all off
none_of : (a b c d e : Bool) → (a || (b || (c || (d || (e || false))))) ≡ false
    → cond a SelectManual (cond b SelectAuto1 (cond c SelectAuto2 (cond d ProgramAuto1 (cond e ProgramAuto2 Continue)))) ≡ Continue
none_of false false false false false h = refl
none_of true b c d e h = absurd (false≢true (sym h))
none_of false true c d e h = absurd (false≢true (sym h))
none_of false false true d e h = absurd (false≢true (sym h))
none_of false false false true e h = absurd (false≢true (sym h))
none_of false false false false true h = absurd (false≢true (sym h))

continues : (w : ℕ) → is_wanted w ≡ false → decoded w ≡ Continue
unfolding decoded
continues w h = none_of (eqb (top w) MANUAL) (eqb (top w) AUTO1) (eqb (top w) AUTO2) (eqb (top w) PROGRAM_AUTO1) (eqb (top w) PROGRAM_AUTO2) h

pub unwanted_continue : UnwantedContinue
unfolding commanded
unwanted_continue s w p h = as_command s w p ∙ ap (λ (c : Command). commanded c s w) (continues w h) ∙ sym (zero_advances s p)

-- a field above the low six bits is the same without them
module _ (w : ℕ) where
  abbrev cut : ℕ
  cut = w / 64 * 64

  top_cut : top cut ≡ top w
  unfolding field
  top_cut = omega arith

  programs_cut : programs cut ≡ programs w
  unfolding programs bit field
  programs_cut = let e : cut / 2048 % 2 ≡ w / 2048 % 2 = omega arith in ap (λ (n : ℕ). eqb n 1) e

  resets_cut : resets_counter cut ≡ resets_counter w
  unfolding resets_counter bit field
  resets_cut = let e : cut / 1024 % 2 ≡ w / 1024 % 2 = omega arith in ap (λ (n : ℕ). eqb n 1) e

  range2_cut : selects_range2 cut ≡ selects_range2 w
  unfolding selects_range2 bit field
  range2_cut = let e : cut / 64 % 2 ≡ w / 64 % 2 = omega arith in ap (λ (n : ℕ). eqb n 1) e

  channel_cut : channel_in cut ≡ channel_in w
  unfolding channel_in field
  channel_cut = omega arith

  last_cut : last_in cut ≡ last_in w
  unfolding last_in field
  last_cut = omega arith

  decoded_cut : decoded cut ≡ decoded w
  unfolding decoded
  decoded_cut = rw top_cut

module _ (s : Ads7953) (w : ℕ) where
  programmed_cut : programmed s (cut w) ≡ programmed s w
  unfolding programmed retained
  programmed_cut = rw (programs_cut w, resets_cut w, range2_cut w)

  auto_cut : (mode : Mode) → auto_latched s mode (cut w) ≡ auto_latched s mode w
  unfolding auto_latched
  auto_cut mode = rw programmed_cut

  commanded_cut : (c : Command) → commanded c s (cut w) ≡ commanded c s w
  unfolding commanded manual_latched retained
  commanded_cut Continue = refl
  commanded_cut SelectManual = rw (programs_cut w, range2_cut w, channel_cut w)
  commanded_cut SelectAuto1 = auto_cut _
  commanded_cut SelectAuto2 = auto_cut _
  commanded_cut ProgramAuto1 = refl
  commanded_cut ProgramAuto2 = rw (last_cut w)

pub low_bits_unread : LowBitsUnread
low_bits_unread s w p = as_command s (cut w) p ∙ rw (decoded_cut w) (commanded_cut s w (decoded w)) ∙ sym (as_command s w p)
