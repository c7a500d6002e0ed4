-- A list of tests answers 0 exactly when none of them applies, and the first number that they give by themselves.
use mathlib.Core.Bool.{Bool, true, not}
use mathlib.Core.List.{List, [], ◌∷◌, map}
use mathlib.Core.Path.{◌≡◌, refl, ◌∙◌, ap}
use Prim.Native.Nat.{ℕ}
use native.Mathlib.Omega.{arith}
use borrow.Author.Tests.{ltb-true, ne_eqb}
use lib.Dec.{ltb}
use Rattle.cases.proofs.Cases.{split, and_both}
use Rattle.refusal.specs.Numbers.{none}
use Rattle.refusal.specs.First.{first_of, given, first_given, NoneApplies, numbered, NumberedExact, FirstGivenAnswers}

applies_not : (tests : List (Bool × ℕ)) → numbered tests ≡ true → first_of tests ≡ none → NoneApplies tests
applies_not [] n e = tt
applies_not (t ∷ tests) n e =
    let b = and_both (ltb none t.1) (numbered tests) n in
    let ih = applies_not tests b.1 in
    split t.0 (λ q. absurd (omega (arith, ltb-true none t.1 b.0, rw q at e))) (λ q. (q, ih (rw q at e)))

first_none : (tests : List (Bool × ℕ)) → NoneApplies tests → first_of tests ≡ none
first_none [] a = refl
first_none (t ∷ tests) a = rw a.0 (first_none tests a.1)

pub exact : NumberedExact
exact tests n = record { accepts = first_none tests; refuses = applies_not tests n }

pub first_given_lem : FirstGivenAnswers
first_given_lem [] n = refl
first_given_lem (t ∷ tests) n =
    let b = and_both (ltb none t.1) (numbered tests) n in
    split t.0
    (λ q. rw (q, ne_eqb t.1 none (λ z. omega (arith, ltb-true none t.1 b.0))))
    (λ q. rw q (first_given_lem tests b.1))

-- The code gives each test's number by itself and then the first of them. That number is the answer of the list of tests:
pub walked : (tests : List (Bool × ℕ)) → numbered tests ≡ true → {answer : ℕ} {numbers : List ℕ} → answer ≡ first_given numbers
    → numbers ≡ map (λ (t : Bool × ℕ). given t.0 t.1) tests → answer ≡ first_of tests
walked tests n first same = first ∙ ap first_given same ∙ first_given_lem tests n

-- what the code asks of its own result holds of what that result is
pub says : {result meant : Bool} (number : ℕ) {told : ℕ} → told ≡ given (not result) number → result ≡ meant → told ≡ given (not meant) number
says number t e = t ∙ ap (λ (b : Bool). given (not b) number) e
