-- One converter of the bench replaced: the others, the whole, and refusal 13.
use Prim.Native.Nat.{ℕ, zero, suc, ◌<◌}
use mathlib.Core.Path.{◌≡◌, refl, sym, ◌∙◌, ap}
use mathlib.Core.Bool.{Bool, true, false≢true}
use mathlib.Core.List.{List, [], ◌∷◌}
use native.Mathlib.Omega.{arith}
use borrow.Author.Tests.{eqb-true, eqb-false, ltb-true, ltb-false}
use lib.Dec.{eqb, ltb}
use lib.ListN.{length, set, get_or-eq_default}
use lib.Seq.{get_or-set_same, get_or-set_other, set-get_or}
use Rattle.cases.proofs.Below.{below_at}
use Rattle.cases.proofs.Cases.{split, and_both}
use Rattle.ads1299.specs.declared.Converter.{Converter}
use Rattle.ads1299.specs.PowerUp.{valid_id}
use Rattle.ads1299.specs.Validity.{valid_converter, valid}
use Rattle.lines.specs.Lines.{converter_count, every_converter}
use Rattle.bench.specs.declared.Bench.{Bench}
use Rattle.bench.specs.Bench.{blank, at, with_converter, valid_bench}

-- a test that every converter's number passes
pub every_passes : (test : ℕ → Bool) → every_converter test ≡ true → (k : ℕ) → k < converter_count → test k ≡ true
every_passes test e =
    let a = and_both (test 0) _ e in
    let b = and_both (test 1) _ a.1 in
    let c = and_both (test 2) _ b.1 in
    let d = and_both (test 3) _ c.1 in
    below_at 4 test (rw (a.0, b.0, c.0, d.0))

pub passes_every : (test : ℕ → Bool) → ((k : ℕ) → k < converter_count → test k ≡ true) → every_converter test ≡ true
passes_every test e = rw (e 0 (omega arith), e 1 (omega arith), e 2 (omega arith), e 3 (omega arith))

set_set : (l : List Converter) (k : ℕ) (c d : Converter) → set (set l k c) k d ≡ set l k d
set_set [] k c d = refl
set_set (x ∷ l) zero c d = refl
set_set (x ∷ l) (suc k) c d = ap (λ (rest : List Converter). x ∷ rest) (set_set l k c d)

module _ (b : Bench) (k : ℕ) where
  -- replaced twice, and by itself
  pub with_again : (c d : Converter) → with_converter (with_converter b k c) k d ≡ with_converter b k d
  with_again c d = ap (λ (l : List Converter). record { converters = l }) (set_set b.converters k c d)

  pub with_same : with_converter b k (at b k) ≡ b
  with_same = ap (λ (l : List Converter). record { converters = l }) (set-get_or b.converters k blank)

  pub at_other : (c : Converter) (j : ℕ) → (j ≡ k → ⊥) → at (with_converter b k c) j ≡ at b j
  at_other c j ne = get_or-set_other b.converters k j c blank ne

  module _ (size : length b.converters ≡ converter_count) (h : k < converter_count) where
    pub at_same : (c : Converter) → at (with_converter b k c) k ≡ c
    at_same c = get_or-set_same b.converters k c blank (omega arith)

    -- what holds of each converter, after one is replaced
    pub each_with : (P : ℕ → Converter → Type 0) (c : Converter) → P k c → ((j : ℕ) → j < converter_count → (j ≡ k → ⊥) → P j (at b j))
        → (j : ℕ) → j < converter_count → P j (at (with_converter b k c) j)
    each_with P c own others j lt =
        split (eqb j k)
        (λ q. rw (eqb-true j k q, at_same c) own)
        (λ q. rw (at_other c j (eqb-false j k q)) (others j lt (eqb-false j k q)))

-- all four pass 13, or one does not
pub each_valid : (b : Bench) → valid_bench b ≡ true → (k : ℕ) → k < converter_count → valid (at b k) ≡ true
unfolding valid_bench
each_valid b e = every_passes (λ k. valid (at b k)) e

pub all_valid : (b : Bench) → ((k : ℕ) → k < converter_count → valid (at b k) ≡ true) → valid_bench b ≡ true
unfolding valid_bench
all_valid b e = passes_every (λ k. valid (at b k)) e

module _ (b : Bench) (e : valid_bench b ≡ true) (k : ℕ) (h : k < converter_count) where
  -- a bench that passes 13 has a converter of each number, since what is read beyond the last fails it
  there : k < length b.converters
  unfolding valid valid_converter valid_id
  there =
      split (ltb k (length b.converters))
      (λ q. ltb-true k (length b.converters) q)
      (λ q.
      let beyond : at b k ≡ blank = get_or-eq_default b.converters blank (ltb-false k (length b.converters) q) in
      absurd (false≢true (ap valid (sym beyond) ∙ each_valid b e k h)))

  pub at_valid : (c : Converter) → at (with_converter b k c) k ≡ c
  at_valid c = get_or-set_same b.converters k c blank there

  pub with_valid : (c : Converter) → valid c ≡ true → valid_bench (with_converter b k c) ≡ true
  with_valid c v =
      all_valid (with_converter b k c)
      (λ j lt. split (eqb j k)
      (λ q. rw (eqb-true j k q, at_valid c) v)
      (λ q. rw (at_other b k c j (eqb-false j k q)) (each_valid b e j lt)))
