-- The code's arrays are whole, as every bench's that it is given: that is read out of what the bench owns.
use Rattle.bench.proofs.Formed.{bench_formed}
use Rattle.bench_planner.proofs.plan.Goals as goal

pub returns-then-not-is_valid-clause-formed : goal.returns-then-not-is_valid-clause-formed
returns-then-not-is_valid-clause-formed c = let owned = c.well_formed.0.1.1.0.1 in bench_formed c.args.bench _ owned.0.1 owned.1

pub returns-in_err-length-clause-formed : goal.returns-in_err-length-clause-formed
returns-in_err-length-clause-formed c = let owned = c.well_formed.0.1.1.0.1 in bench_formed c.args.bench _ owned.0.1 owned.1

pub returns-clause-formed : goal.returns-clause-formed
returns-clause-formed c = let owned = c.well_formed.0.1.1.0.1 in bench_formed c.args.bench _ owned.0.1 owned.1
