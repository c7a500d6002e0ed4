-- What is claimed of grants on the bench beyond the functions' contracts.
use Rattle.std.specs.Prelude.{ℕ, ◌-◌, ◌≡◌, true, set}
use Rattle.refusal.specs.Numbers.{none}
use Rattle.refusal.specs.First.{first_of}
use Rattle.ads1299.specs.State.{with_owners}
use Rattle.bench.specs.declared.Bench.{Bench}
use Rattle.bench.specs.Answers.{BenchMoved}
use Rattle.bench.specs.Bench.{at, valid_bench, bench_owners}
use Rattle.bench.specs.Formed.{FormedBench}
use Rattle.bench_grants.specs.Grant.{bench_granted, bench_grant_refusals}

-- Every grant is answered the number of the first refusal that applies as document 02 words them.
abbrev pub GrantsAsWorded : Type 0
GrantsAsWorded =
    (b : Bench) (caller receiver n : ℕ) → (bench_granted b caller receiver n).refusal ≡ first_of (bench_grant_refusals b caller receiver n)

-- From a bench that passes 13, every grant leads to one that passes it.
abbrev pub GrantKeepsValid : Type 0
GrantKeepsValid =
    (b : Bench) (caller receiver n : ℕ) → valid_bench b ≡ true → valid_bench (bench_granted b caller receiver n).next ≡ true

-- accepted, entry n of the bench's 32 owners is the receiver's and no other changed; refused, the bench is as given; all but the owners stays in any case
pub record OneOwnerMoves (b : Bench) (receiver n : ℕ) (answer : BenchMoved) : Type 0 where
  pub moved : answer.refusal ≡ none → bench_owners answer.next ≡ set (bench_owners b) (n - 1) receiver
  pub kept : (answer.refusal ≡ none → ⊥) → answer.next ≡ b
  pub rest : (k : ℕ) → at answer.next k ≡ with_owners (at b k) (at answer.next k).owners

-- A grant changes one of the 32 owner entries and nothing else.
abbrev pub GrantMovesOneOwner : Type 0
GrantMovesOneOwner =
    (b : Bench) → FormedBench b → (caller receiver n : ℕ) → OneOwnerMoves b receiver n (bench_granted b caller receiver n)
