-- The grant's number, which goes by the mapping, is that of the refusals as they are worded.
use Rattle.cases.proofs.Cases.{split}
use Rattle.grants.specs.Grant.{grant_refusal}
use Rattle.grants.proofs.Accepted.{grant_number}
use Rattle.lines.specs.Lines.{converter_of, local_channel}
use Rattle.lines.proofs.Numbering.{below_four}
use Rattle.lines.proofs.Ranges.{channels}
use Rattle.bench.specs.Bench.{at, valid_bench}
use Rattle.bench.proofs.Converters.{each_valid}
use Rattle.bench_grants.specs.Grant.{bench_granted}
use Rattle.bench_grants.specs.Claims.{GrantsAsWorded}

pub grants_as_worded : GrantsAsWorded
unfolding bench_granted grant_refusal
grants_as_worded b caller receiver n =
    split (valid_bench b)
    (λ v. rw (v, grant_number (at b (converter_of n)) caller receiver (local_channel n), each_valid b v (converter_of n) (below_four n), channels n))
    (λ v. rw v)
