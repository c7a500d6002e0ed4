-- A grant on the bench moves one entry of the 32, and keeps the bench valid.
use Prim.Native.Nat.{ℕ, ◌-◌}
use mathlib.Core.Path.{◌≡◌, sym, ◌∙◌, ap}
use mathlib.Core.Bool.{true}
use native.Mathlib.Omega.{arith}
use borrow.Author.Tests.{eqb-true, eqb-false}
use lib.Dec.{eqb}
use lib.ListN.{set}
use Rattle.cases.proofs.Cases.{split}
use Rattle.refusal.specs.Numbers.{none}
use Rattle.ads1299.specs.Answers.{Moved}
use Rattle.ads1299.specs.State.{with_owners}
use Rattle.grants.specs.Grant.{reassigned, granted}
use Rattle.grants.proofs.Accepted.{grant_number, grantable}
use Rattle.grants.proofs.OneOwner as one
use Rattle.lines.specs.Lines.{converter_of, local_channel}
use Rattle.lines.proofs.Numbering.{below_four}
use Rattle.lines.proofs.Ranges.{channels}
use Rattle.bench.specs.declared.Bench.{Bench}
use Rattle.bench.specs.Bench.{at, with_converter, valid_bench, bench_owners}
use Rattle.bench.specs.Formed.{FormedBench}
use Rattle.bench.proofs.Owners.{owner_set}
use Rattle.bench.proofs.Converters.{at_same, at_other, with_same, each_valid, with_valid}
use Rattle.bench_grants.specs.Grant.{bench_granted}
use Rattle.bench_grants.specs.Claims.{GrantKeepsValid, GrantMovesOneOwner}

pub grant_keeps_valid : GrantKeepsValid
unfolding bench_granted
grant_keeps_valid b caller receiver n v =
    let k = converter_of n in
    let h = below_four n in
    rw v (with_valid b v k h (granted (at b k) caller receiver (local_channel n)).next
    (one.grant_keeps_valid (at b k) caller receiver (local_channel n) (each_valid b v k h)))

module _ (b : Bench) (f : FormedBench b) (receiver n : ℕ) where
  abbrev k : ℕ
  k = converter_of n

  module _ (caller : ℕ) where
    abbrev m : ℕ
    m = local_channel n

    next_is : valid_bench b ≡ true → (bench_granted b caller receiver n).next ≡ with_converter b k (granted (at b k) caller receiver m).next
    unfolding bench_granted
    next_is v = rw v

    refusal_is : valid_bench b ≡ true → (bench_granted b caller receiver n).refusal ≡ (granted (at b k) caller receiver m).refusal
    unfolding bench_granted
    refusal_is v = rw v

    taken : (bench_granted b caller receiver n).refusal ≡ none → valid_bench b ≡ true
    unfolding bench_granted
    taken e = split (valid_bench b) (λ v. v) (λ v. absurd (omega (arith, rw v at e)))

    moved : (bench_granted b caller receiver n).refusal ≡ none → bench_owners (bench_granted b caller receiver n).next ≡ set (bench_owners b) (n - 1) receiver
    unfolding reassigned
    moved e =
        let v = taken e in
        let z = sym (refusal_is v) ∙ e in
        let g = grantable (at b k) caller receiver m (sym (grant_number (at b k) caller receiver m) ∙ z) in
        ap bench_owners (next_is v)
        ∙ owner_set b f n receiver (sym (channels n) ∙ g.channel_known) (granted (at b k) caller receiver m).next
        (ap (λ (a : Moved). a.next.owners) (one.accepted_is (at b k) caller receiver m z))

    kept : ((bench_granted b caller receiver n).refusal ≡ none → ⊥) → (bench_granted b caller receiver n).next ≡ b
    unfolding bench_granted
    kept e =
        split (valid_bench b)
        (λ v. rw v (ap (with_converter b k) (one.refused_is (at b k) caller receiver m (rw v at e)) ∙ with_same b k))
        (λ v. rw v)

    rest : (j : ℕ) → at (bench_granted b caller receiver n).next j ≡ with_owners (at b j) (at (bench_granted b caller receiver n).next j).owners
    unfolding bench_granted
    rest j =
        let c = (granted (at b k) caller receiver m).next in
        split (valid_bench b)
        (λ v. rw v (split (eqb j k)
        (λ q. rw (eqb-true j k q, at_same b k f.size (below_four n) c)
        (one.grant_moves_one_owner (at b k) caller receiver m (f.each k (below_four n)).owners.size).rest)
        (λ q. rw (at_other b k c j (eqb-false j k q)))))
        (λ v. rw v)

pub grant_moves_one_owner : GrantMovesOneOwner
grant_moves_one_owner b f caller receiver n =
    record { moved = moved b f receiver n caller; kept = kept b f receiver n caller; rest = rest b f receiver n caller }
