-- What refusal 13 and a frame's refusals leave.
use Prim.Native.Nat.{ℕ, ◌<◌}
use mathlib.Core.Bool.{true}
use mathlib.Core.Path.{◌≡◌, refl}
use borrow.Author.Tests.{ltb-true, lt-ltb, leb-false, not-false}
use lib.Dec.{ltb}
use Rattle.cases.proofs.Cases.{and_both}
use Rattle.refusal.specs.Numbers.{none}
use Rattle.refusal.proofs.First.{exact}
use Rattle.ads7953.specs.declared.Ads7953.{Ads7953}
use Rattle.ads7953.specs.Scan.{channel_count}
use Rattle.ads7953.specs.Frame.{valid, code_count, frame_refusals, frame_refusal}

-- what 13 asks, one by one
pub record Parts (s : Ads7953) : Type 0 where
  pub channel : s.channel < channel_count
  pub ordered : s.ordered < channel_count
  pub last : s.last < channel_count

pub parts : (s : Ads7953) → valid s ≡ true → Parts s
unfolding valid
parts s v =
    let one = and_both (ltb s.channel channel_count) _ v in
    let two = and_both (ltb s.ordered channel_count) _ one.1 in
    record { channel = ltb-true _ _ one.0; ordered = ltb-true _ _ two.0; last = ltb-true _ _ two.1 }

pub whole : (s : Ads7953) → Parts s → valid s ≡ true
unfolding valid
whole s p = rw (lt-ltb _ _ p.channel, lt-ltb _ _ p.ordered, lt-ltb _ _ p.last)

-- a frame that was not refused
pub record Taken (s : Ads7953) (code : ℕ) : Type 0 where
  pub passed : valid s ≡ true
  pub channel : s.channel < channel_count
  pub fits : code < code_count

pub taken : (s : Ads7953) (code : ℕ) → frame_refusal s code ≡ none → Taken s code
unfolding frame_refusal
taken s code e =
    let off = (exact (frame_refusals s code) refl).refuses e in
    let v = not-false (valid s) off.0 in
    record { passed = v; channel = (parts s v).channel; fits = leb-false _ _ off.1.0 }

pub reply_fits : (s : Ads7953) (code : ℕ) → frame_refusal s code ≡ none → (s.channel < channel_count) × (code < code_count)
reply_fits s code e = let t = taken s code e in (t.channel, t.fits)
