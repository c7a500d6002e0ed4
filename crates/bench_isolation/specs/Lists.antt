-- A list of requests, each given the bench that the last one left: what the planner answers it.
use Rattle.std.specs.Prelude.{ℕ, Bool, false, ◌&&◌, ◌||◌, List, [], ◌∷◌}
use Rattle.refusal.specs.First.{accepted}
use Rattle.planner.specs.Submission.{Submission}
use Rattle.lines.specs.Ranges.{names}
use Rattle.bench.specs.declared.Bench.{Bench}
use Rattle.bench_planner.specs.Planned.{bench_planned, bench_plan}

-- gives the numbers that the requests are answered, in their order
unfoldable pub numbers : Bench → List Submission → List ℕ
numbers b [] = []
numbers b (x ∷ l) = (bench_planned b x).refusal ∷ numbers (bench_planned b x).next l

-- gives the requests' plans as they are answered, each byte with its converter's number, no bytes for a refused one
unfoldable pub plans : Bench → List Submission → List (List (ℕ × ℕ))
plans b [] = []
plans b (x ∷ l) = bench_plan b x ∷ plans (bench_planned b x).next l

-- gives the bench that the last request left
unfoldable pub end : Bench → List Submission → Bench
end b [] = b
end b (x ∷ l) = end (bench_planned b x).next l

-- a request that names converter k was accepted, by the numbers that were answered
unfoldable pub touched : ℕ → List Submission → List ℕ → Bool
touched k [] numbers = false
touched k (x ∷ l) [] = false
touched k (x ∷ l) (number ∷ numbers) = (names k x.request.channel && accepted number) || touched k l numbers
