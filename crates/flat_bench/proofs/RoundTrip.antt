-- Converter by converter.
use Prim.Native.Nat.{ℕ, ◌<◌}
use mathlib.Core.Path.{◌≡◌, refl, sym, ◌∙◌, ap}
use mathlib.Core.Bool.{true}
use mathlib.Core.List.{List, [], ◌∷◌, map}
use native.Mathlib.Omega.{arith}
use lib.ListN.{length, get_or}
use Rattle.ads1299.specs.declared.Converter.{Converter}
use Rattle.flat.specs.declared.FlatConverter.{FlatConverter}
use Rattle.flat.specs.Flat.{flat}
use Rattle.flat.specs.States.{is_state, state_of}
use Rattle.flat.proofs.RoundTrip as one
use Rattle.lines.specs.Lines.{converter_count, converter_numbers}
use Rattle.bench.specs.declared.Bench.{Bench}
use Rattle.bench.specs.Bench.{at}
use Rattle.bench.proofs.Converters.{every_passes}
use Rattle.flat_bench.specs.declared.FlatBench.{FlatBench}
use Rattle.flat_bench.specs.Flat.{flat_at, flat_bench, is_bench, bench_of, bench_in}
use Rattle.flat_bench.specs.Claims.{RoundTrip, ComesBack}

-- a list of four is its elements by number
pub by_number {ℓ} : {A : Type ℓ} (l : List A) (d : A) → length l ≡ converter_count → map (λ k. get_or l k d) converter_numbers ≡ l
by_number [] d e = absurd (omega (arith, e))
by_number (a ∷ []) d e = absurd (omega (arith, e))
by_number (a ∷ b ∷ []) d e = absurd (omega (arith, e))
by_number (a ∷ b ∷ c ∷ []) d e = absurd (omega (arith, e))
by_number (a ∷ b ∷ c ∷ x ∷ []) d e = refl
by_number (a ∷ b ∷ c ∷ x ∷ y ∷ l) d e = absurd (omega (arith, e))

-- a list of four whose elements are known by number
pub four_are {ℓ} : {A : Type ℓ} (l : List A) (d : A) (f : ℕ → A) → length l ≡ converter_count → ((k : ℕ) → k < converter_count → get_or l k d ≡ f k)
    → l ≡ map f converter_numbers
four_are l d f e same = sym (by_number l d e) ∙ (λ i. same 0 (omega arith) i ∷ same 1 (omega arith) i ∷ same 2 (omega arith) i ∷ same 3 (omega arith) i ∷ [])

stands : (b : Bench) → is_bench (flat_bench b) ≡ true
unfolding is_bench flat_bench
stands b = rw ((one.round_trip).stands (at b 0), (one.round_trip).stands (at b 1), (one.round_trip).stands (at b 2), (one.round_trip).stands (at b 3))

returns : (b : Bench) → length b.converters ≡ converter_count → bench_of (flat_bench b) ≡ b
unfolding bench_of flat_bench
returns b size =
    (λ i. record { converters = map (λ k. (one.round_trip).returns (at b k) i) converter_numbers })
    ∙ ap (λ (l : List Converter). record { converters = l }) (by_number b.converters _ size)

returns_flat : (f : FlatBench) → length f.converters ≡ converter_count → is_bench f ≡ true → flat_bench (bench_of f) ≡ f
unfolding is_bench flat_bench bench_of
returns_flat f size e =
    let back : (k : ℕ) → k < converter_count → flat (state_of (flat_at f k)) ≡ flat_at f k =
    λ k h. (one.round_trip).returns_flat (flat_at f k) (every_passes (λ k. is_state (flat_at f k)) e k h) in
    (λ i. record { converters = back 0 (omega arith) i ∷ back 1 (omega arith) i ∷ back 2 (omega arith) i ∷ back 3 (omega arith) i ∷ [] })
    ∙ ap (λ (l : List FlatConverter). record { converters = l }) (by_number f.converters _ size)

pub round_trip : RoundTrip
round_trip = record { stands = stands; returns = returns; returns_flat = returns_flat }

pub comes_back : ComesBack
unfolding bench_in
comes_back b size = simp (stands b, returns b size)
