-- What is to be told about one party's requests in a merge of lists for the bench. The lists, and what a merge is, are those of one converter.
use Rattle.std.specs.Prelude.{ℕ, ◌≡◌}
use mathlib.Core.List.{List, [], ◌∷◌, get_last_d}
use Rattle.planner.specs.Submission.{Submission}
use Rattle.isolation.specs.Merges.{accepted_values, Alike}
use Rattle.bench.specs.declared.Bench.{Bench}
use Rattle.bench.specs.Bench.{at}
use Rattle.bench.specs.Run.{bytes_for}
use Rattle.bench_planner.specs.Local.{target, localised}
use Rattle.bench_planner.specs.Fields.{bench_field}

-- gives the last value that a list's accepted requests gave the field, by their numbers, or its value on the first bench
unfoldable pub last_accepted : Bench → ℕ → ℕ → List Submission → List ℕ → ℕ
last_accepted b f n l numbers = get_last_d (accepted_values f n l numbers) (bench_field b f n)

-- two plans of one request with its number: both for the converter that the request names, and alike as that converter's plans
pub record BenchAlike (b : Bench) (x : Submission) (number : ℕ) (first second : List (ℕ × ℕ)) : Type 0 where
  pub one : List ℕ
  pub other : List ℕ
  pub first_is : first ≡ bytes_for (target x) one
  pub second_is : second ≡ bytes_for (target x) other
  pub alike : Alike (at b (target x)) (localised x) number one other

-- The plans of a list of requests with their numbers are alike, one by one.
pub data AllAlike (b : Bench) : List Submission → List ℕ → List (List (ℕ × ℕ)) → List (List (ℕ × ℕ)) → Type 0 where
  no_plans : AllAlike b [] [] [] []
  more_plans : {x : Submission} {number : ℕ} {first second : List (ℕ × ℕ)} {l : List Submission} {numbers : List ℕ} {firsts seconds : List (List (ℕ × ℕ))}
      → BenchAlike b x number first second → AllAlike b l numbers firsts seconds
      → AllAlike b (x ∷ l) (number ∷ numbers) (first ∷ firsts) (second ∷ seconds)
