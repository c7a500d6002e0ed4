-- A merge, told by each party's own list, is what taking heads gives.
use mathlib.Core.Path.{refl, sym, ◌∙◌, ap}
use mathlib.Core.List.{List, [], ◌∷◌}
use borrow.Author.Tests.{eqb-true, eq-eqb}
use lib.Dec.{eqb}
use Rattle.cases.proofs.Cases.{split}
use Rattle.planner.specs.Submission.{Submission}
use Rattle.isolation.specs.Merges.{Lists, from, Merge, replaced, Interleaving, nothing_left, take_head}
use Rattle.isolation.specs.Demand3.{MergesInterleave}

heads_merge : {lists : Lists} {l : List Submission} → Interleaving lists l → Merge lists l
unfolding from replaced
heads_merge (nothing_left e) p = sym (e p)
heads_merge (take_head x tail e i) p =
    let ih = heads_merge i p in
    split (eqb x.party p) (λ q. rw q (ap (λ (y : List Submission). x ∷ y) (rw q at ih) ∙ sym e ∙ rw (eqb-true x.party p q))) (λ q. rw q (rw q at ih))

merge_heads : (l : List Submission) (lists : Lists) → Merge lists l → Interleaving lists l
unfolding from replaced
merge_heads [] lists m = nothing_left (λ p. sym (m p))
merge_heads (x ∷ l) lists m =
    take_head x (from x.party l)
    (sym (rw (eq-eqb x.party x.party refl) at (m x.party)))
    (merge_heads l (replaced lists x.party (from x.party l))
    (λ p. split (eqb x.party p) (λ q. rw q (rw (eqb-true x.party p q))) (λ q. rw q (rw q at (m p)))))

pub merge_is_interleaving : MergesInterleave
merge_is_interleaving = record { takes_heads = λ lists l. merge_heads l lists; is_merge = λ lists l. heads_merge }
