-- Tests over a list, from one to another.
use mathlib.Core.Path.{◌≡◌, refl}
use mathlib.Core.Bool.{Bool, true, ◌&&◌, false≢true}
use mathlib.Core.List.{List, [], ◌∷◌}
use Rattle.cases.specs.Every.{every, any_of}
use Rattle.cases.proofs.Cases.{split, and_both}

-- a test that follows from another does so for every element
pub follows : {A : Type 0} (p q : A → Bool) → ((a : A) → p a ≡ true → q a ≡ true) → (l : List A) → every p l ≡ true → every q l ≡ true
follows p q f [] e = refl
follows p q f (a ∷ l) e = let b = and_both (p a) (every p l) e in rw (f a b.0, follows p q f l b.1)

-- where every element passes one test and some element another, an element passes both
pub both : {A : Type 0} (p q : A → Bool) (l : List A) → every p l ≡ true → any_of q l ≡ true → (a : A) × (p a ≡ true) × (q a ≡ true)
both p q [] e s = absurd (false≢true s)
both p q (a ∷ l) e s =
    let b = and_both (p a) (every p l) e in
    let ih = both p q l b.1 in
    split (q a) (λ z. (a, b.0, z)) (λ z. ih (rw z at s))

-- two tests that every element passes, together
pub every_both : {A : Type 0} (p q : A → Bool) (l : List A) → every p l ≡ true → every q l ≡ true → every (λ (a : A). p a && q a) l ≡ true
every_both p q [] e f = refl
every_both p q (a ∷ l) e f =
    let b = and_both (p a) (every p l) e in
    let c = and_both (q a) (every q l) f in
    rw (b.0, c.0, every_both p q l b.1 c.1)
