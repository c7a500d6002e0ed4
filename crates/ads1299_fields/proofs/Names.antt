-- From a test at every name to the rule at each, and to a name where it fails.
use mathlib.Core.Path.{◌≡◌, sym}
use mathlib.Core.Bool.{Bool, true, false, cond, false≢true}
use Prim.Native.Nat.{ℕ, ◌+◌, ◌<◌}
use native.Mathlib.Omega.{arith}
use lib.Dec.{leb}
use borrow.Author.Tests.{leb-true, eqb-true}
use Rattle.cases.specs.Below.{below}
use Rattle.cases.proofs.Cases.{split, and_both}
use Rattle.cases.proofs.Below.{below_at, below_find}
use Rattle.ads1299_registers.specs.Addresses.{channel_count}
use Rattle.ads1299_registers.proofs.Bounds.{bounds}
use Rattle.ads1299_fields.specs.Names.{field_count, is_field, channel_field, takes_channel, named, every_name}

-- the numbers of a name are within the table
pub named_range : (f n : ℕ) → named f n ≡ true → (f < field_count + 1) × (n < channel_count + 1)
unfolding named
named_range f n h =
    let b = and_both (is_field f) (takes_channel f n) h in
    let hf = leb-true f field_count (and_both (leb 1 f) (leb f field_count) b.0).1 in (
      omega arith,
      split (channel_field f) (λ e. omega (arith, (bounds n (rw e at b.1)).high))
          (λ e. omega (arith, eqb-true n 0 (rw e at b.1))),
    )

-- the test at the names of one field
abbrev at_field : (ℕ → ℕ → Bool) → ℕ → Bool
at_field test f = below (channel_count + 1) (λ n. cond (named f n) (test f n) true)

pub every_at : (test : ℕ → ℕ → Bool) → every_name test ≡ true → (f n : ℕ) → named f n ≡ true → test f n ≡ true
unfolding every_name
every_at test h f n k =
    let r = named_range f n k in
    rw k at (below_at (channel_count + 1) (λ m. cond (named f m) (test f m) true) (below_at (field_count + 1) (at_field test) h f r.0) n r.1)

pub every_find : (test : ℕ → ℕ → Bool) → every_name test ≡ false → (f : ℕ) × (n : ℕ) × (named f n ≡ true) × (test f n ≡ false)
unfolding every_name
every_find test e =
    let a = below_find (field_count + 1) (at_field test) e in
    let c = below_find (channel_count + 1) (λ n. cond (named a.0 n) (test a.0 n) true) a.1 in
    split (named a.0 c.0) (λ k. (a.0, c.0, k, rw k at c.1)) (λ k. absurd (false≢true (sym (rw k at c.1))))
