-- The mapping and the ranges, by a test that is computed over all numbers up to 35.
use Prim.Native.Nat.{ℕ, ◌<◌}
use mathlib.Core.Path.{◌≡◌, refl, sym, ◌∙◌, ap}
use mathlib.Core.Bool.{Bool, true, false, cond, not, ◌&&◌, ◌||◌, false≢true}
use native.Mathlib.Omega.{arith}
use borrow.Author.Tests.{ne_eqb, lt-leb, ltb-true, ltb-false}
use lib.Dec.{eqb, leb, ltb}
use Rattle.cases.specs.Below.{below}
use Rattle.cases.proofs.Below.{below_at}
use Rattle.cases.proofs.Cases.{split, and_both}
use Rattle.ads1299_registers.specs.Channels.{is_channel}
use Rattle.lines.specs.Lines.{converter_count, is_converter, last_channel, last_number, converter_of, local_channel, channel_on}
use Rattle.lines.specs.Ranges.{is_bench_channel, is_whole, has_channel, names}
use Rattle.lines.specs.Claims.{RangesAgree}
use Rattle.lines.proofs.Numbering.{below_four, beyond}

-- two tests give the same
abbrev agree : Bool → Bool → Bool
agree a b = cond a b (not b)

agree_is : (a b : Bool) → agree a b ≡ true → a ≡ b
agree_is true true e = refl
agree_is true false e = sym e
agree_is false true e = e
agree_is false false e = refl

-- what the ranges say of a number, and of it with a converter's number, against the mapping
abbrev kinds : ℕ → Bool
kinds n = agree (is_channel (local_channel n)) (is_bench_channel n) && agree (eqb (local_channel n) 0) (is_whole n)

abbrev lies : ℕ → ℕ → Bool
lies n k = agree (names k n) (eqb (converter_of n) k) && agree (is_bench_channel n && eqb (converter_of n) k) (is_bench_channel n && has_channel k n)

all_kinds : below 36 kinds ≡ true
unfolding local_channel
all_kinds = refl

all_lie : below 36 (λ n. below 4 (lies n)) ≡ true
unfolding converter_of
all_lie = refl

module _ (n : ℕ) (h : last_number < n) where
  no_channel : is_bench_channel n ≡ false
  no_channel = rw (lt-leb n last_channel (omega arith)) (split (leb 1 n) (λ e. rw e) (λ e. rw e))

  no_whole : is_whole n ≡ false
  no_whole = rw (ne_eqb n 0 (λ e. omega arith), lt-leb n last_number (omega arith)) (split (ltb last_channel n) (λ e. rw e) (λ e. rw e))

of_kind : (n : ℕ) → ltb n 36 ≡ true
    → (agree (is_channel (local_channel n)) (is_bench_channel n) ≡ true) × (agree (eqb (local_channel n) 0) (is_whole n) ≡ true)
of_kind n e =
    and_both (agree (is_channel (local_channel n)) (is_bench_channel n)) (agree (eqb (local_channel n) 0) (is_whole n))
    (below_at 36 kinds all_kinds n (ltb-true n 36 e))

pub channels : (n : ℕ) → is_channel (local_channel n) ≡ is_bench_channel n
channels n =
    split (ltb n 36)
    (λ e. agree_is _ _ (of_kind n e).0)
    (λ e. let h = ltb-false n 36 e in ap is_channel (beyond n (omega arith)) ∙ sym (no_channel n (omega arith)))

pub wholes : (n : ℕ) → eqb (local_channel n) 0 ≡ is_whole n
wholes n =
    split (ltb n 36)
    (λ e. agree_is _ _ (of_kind n e).1)
    (λ e. let h = ltb-false n 36 e in ap (λ (m : ℕ). eqb m 0) (beyond n (omega arith)) ∙ sym (no_whole n (omega arith)))

lies_so : (k n : ℕ) → is_converter k ≡ true → ltb n 36 ≡ true
    → (agree (names k n) (eqb (converter_of n) k) ≡ true) × (agree (is_bench_channel n && eqb (converter_of n) k) (is_bench_channel n && has_channel k n) ≡ true)
lies_so k n hk hn =
    and_both (agree (names k n) (eqb (converter_of n) k)) (agree (is_bench_channel n && eqb (converter_of n) k) (is_bench_channel n && has_channel k n))
    (below_at 4 (lies n) (below_at 36 (λ n. below 4 (lies n)) all_lie n (ltb-true n 36 hn)) k (ltb-true k converter_count hk))

pub converters : (k n : ℕ) → is_converter k ≡ true → (is_bench_channel n || is_whole n) ≡ true → names k n ≡ eqb (converter_of n) k
converters k n hk named =
    split (ltb n 36)
    (λ e. agree_is _ _ (lies_so k n hk e).0)
    (λ e. let h = ltb-false n 36 e in absurd (false≢true (rw (no_channel n (omega arith), no_whole n (omega arith)) at named)))

on_mapping : (k n : ℕ) → is_channel (channel_on k n) ≡ (is_bench_channel n && eqb (converter_of n) k)
unfolding channel_on
on_mapping k n =
    split (eqb (converter_of n) k)
    (λ e. rw e (channels n ∙ split (is_bench_channel n) (λ q. rw q) (λ q. rw q)))
    (λ e. rw e (split (is_bench_channel n) (λ q. rw q) (λ q. rw q)))

pub channels_on : (k n : ℕ) → is_channel (channel_on k n) ≡ (is_converter k && is_bench_channel n && has_channel k n)
channels_on k n =
    on_mapping k n
    ∙ split (is_converter k)
    (λ hk. rw hk (split (ltb n 36)
    (λ e. agree_is _ _ (lies_so k n hk e).1)
    (λ e. let h = ltb-false n 36 e in rw (no_channel n (omega arith)))))
    (λ hk.
    let h = ltb-false k converter_count hk in
    let b = below_four n in
    rw (hk, ne_eqb (converter_of n) k (λ z. omega (arith, z))) (split (is_bench_channel n) (λ q. rw q) (λ q. rw q)))

pub ranges_agree : RangesAgree
ranges_agree = record { channels = channels; wholes = wholes; converters = converters; channels_on = channels_on }
