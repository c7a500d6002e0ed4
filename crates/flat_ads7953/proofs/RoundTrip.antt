-- The flat form and back, from either side.
use Prim.Native.Nat.{ℕ, zero, suc}
use mathlib.Core.Path.{◌≡◌, refl}
use mathlib.Core.Bool.{Bool, true, false, ◌&&◌}
use mir.Val.{bool_byte}
use lib.Dec.{leb}
use borrow.Author.Tests.{leb-true}
use native.Mathlib.Omega.{arith}
use Rattle.cases.proofs.Cases.{and_both}
use Rattle.flat.specs.Flat.{flag_code}
use Rattle.flat.specs.States.{is_flag}
use Rattle.flat.proofs.RoundTrip.{flag_stands, flag_returns, flag_flat}
use Rattle.ads7953.specs.declared.Mode.{Mode}
use Rattle.ads7953.specs.declared.Mode.TheVariants.{Manual, Auto1, Auto2}
use Rattle.ads7953.specs.declared.Ads7953.{Ads7953}
use Rattle.ads7953.specs.Modes.{mode_number}
use Rattle.ads7953.specs.State.{state}
use Rattle.flat_ads7953.specs.declared.FlatAds7953.{FlatAds7953}
use Rattle.flat_ads7953.specs.Flat.{flat_part, are_flags, is_part, mode_of, part_of, part_in}
use Rattle.flat_ads7953.specs.Claims.{RoundTrip, ComesBack}

-- a flag as a number is its code
pub flag_byte : (b : Bool) → bool_byte b ≡ flag_code b
flag_byte true = refl
flag_byte false = refl

mode_stands : (m : Mode) → leb (mode_number m) 2 ≡ true
mode_stands Manual = refl
mode_stands Auto1 = refl
mode_stands Auto2 = refl

mode_returns : (m : Mode) → mode_of (mode_number m) ≡ m
mode_returns Manual = refl
mode_returns Auto1 = refl
mode_returns Auto2 = refl

mode_flat : (n : ℕ) → leb n 2 ≡ true → mode_number (mode_of n) ≡ n
mode_flat zero e = refl
mode_flat (suc zero) e = refl
mode_flat (suc (suc zero)) e = refl
mode_flat (suc (suc (suc n))) e = absurd (omega (arith, leb-true (suc (suc (suc n))) 2 e))

stands : (s : Ads7953) → is_part (flat_part s) ≡ true
unfolding is_part are_flags flat_part
stands s = simp (mode_stands s.mode, flag_stands s.range2, flag_stands s.reset, flag_stands s.programming, flag_stands s.first)

returns : (s : Ads7953) → part_of (flat_part s) ≡ s
unfolding part_of flat_part
returns s =
    λ i. state (mode_returns s.mode i) s.channel s.ordered s.list s.last
    (flag_returns s.range2 i) (flag_returns s.reset i) (flag_returns s.programming i) (flag_returns s.first i)

returns_flat_lem : (f : FlatAds7953) → is_part f ≡ true → flat_part (part_of f) ≡ f
unfolding is_part are_flags part_of flat_part
returns_flat_lem f e =
    let m = and_both (leb f.mode 2) (is_flag f.range2 && (is_flag f.reset && (is_flag f.programming && is_flag f.first))) e in
    let a = and_both (is_flag f.range2) (is_flag f.reset && (is_flag f.programming && is_flag f.first)) m.1 in
    let b = and_both (is_flag f.reset) (is_flag f.programming && is_flag f.first) a.1 in
    let c = and_both (is_flag f.programming) (is_flag f.first) b.1 in
    λ i. record {
      list = f.list;
      mode = mode_flat f.mode m.0 i;
      channel = f.channel;
      ordered = f.ordered;
      last = f.last;
      range2 = flag_flat f.range2 a.0 i;
      reset = flag_flat f.reset b.0 i;
      programming = flag_flat f.programming c.0 i;
      first = flag_flat f.first c.1 i;
    }

pub round_trip : RoundTrip
round_trip = record { stands = stands; returns = returns; returns_flat = returns_flat_lem }

pub comes_back : ComesBack
unfolding part_in
comes_back s = simp (stands s, returns s)
