-- A list of requests, each given the state that the last one left: what the planner answers it.
use Rattle.std.specs.Prelude.{ℕ, Bool, false, ◌||◌, List, [], ◌∷◌}
use Rattle.refusal.specs.First.{accepted}
use Rattle.ads1299.specs.declared.Converter.{Converter}
use Rattle.planner.specs.Submission.{Submission}
use Rattle.planner.specs.Planned.{plan, planned}

-- gives the numbers that the requests are answered, in their order
unfoldable pub numbers : Converter → List Submission → List ℕ
numbers s [] = []
numbers s (x ∷ l) = (planned s x).refusal ∷ numbers (planned s x).next l

-- gives the requests' plans as they are answered, no bytes for a refused one
unfoldable pub plans : Converter → List Submission → List (List ℕ)
plans s [] = []
plans s (x ∷ l) = plan s x ∷ plans (planned s x).next l

-- gives the state that the last request left
unfoldable pub end : Converter → List Submission → Converter
end s [] = s
end s (x ∷ l) = end (planned s x).next l

-- a request was accepted, by the numbers that were answered
unfoldable pub touched : List ℕ → Bool
touched [] = false
touched (number ∷ numbers) = accepted number || touched numbers
