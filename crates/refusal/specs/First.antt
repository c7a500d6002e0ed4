-- The order of refusals: tests are tried one after the other, and the first that applies is the answer.
use Rattle.std.specs.Prelude.{Bool, true, false, cond, ◌&&◌, List, [], ◌∷◌, map, ◌≡◌, ℕ, eqb, ltb}
use Rattle.refusal.specs.Numbers.{none}

-- gives the number of the first test that applies, or 0
abbrev pub first_of : List (Bool × ℕ) → ℕ
first_of [] = none
first_of (test ∷ tests) = cond test.0 test.1 (first_of tests)

-- no refusal was given
abbrev pub accepted : ℕ → Bool
accepted number = eqb number none

-- gives what a test says by itself: its number where it applies, 0 where it does not
abbrev pub given : Bool → ℕ → ℕ
given applies number = cond applies number none

-- gives the first of some numbers that is not 0, or 0
abbrev pub first_given : List ℕ → ℕ
first_given [] = none
first_given (number ∷ numbers) = cond (accepted number) (first_given numbers) number

-- no test of the list applies
abbrev pub NoneApplies : List (Bool × ℕ) → Type 0
NoneApplies [] = Unit {0}
NoneApplies (test ∷ tests) = (test.0 ≡ false) × NoneApplies tests

-- every number of the list is a refusal's: none is 0
abbrev pub numbered : List (Bool × ℕ) → Bool
numbered [] = true
numbered (test ∷ tests) = ltb none test.1 && numbered tests

-- the answer is 0 exactly when no test applies
pub record Exact (tests : List (Bool × ℕ)) : Type 0 where
  pub accepts : NoneApplies tests → first_of tests ≡ none
  pub refuses : first_of tests ≡ none → NoneApplies tests

-- Where every test has a refusal's number, the answer is 0 exactly when no test applies.
abbrev pub NumberedExact : Type 0
NumberedExact = (tests : List (Bool × ℕ)) → numbered tests ≡ true → Exact tests

-- The first number that the tests of such a list give by themselves is the answer.
abbrev pub FirstGivenAnswers : Type 0
FirstGivenAnswers =
    (tests : List (Bool × ℕ)) → numbered tests ≡ true → first_given (map (λ (t : Bool × ℕ). given t.0 t.1) tests) ≡ first_of tests
