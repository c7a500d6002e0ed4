-- A party's own cells on the bench go by its own requests alone: converter by converter, as on one converter.
use Prim.Native.Nat.{ℕ, ◌<◌}
use mathlib.Core.Path.{◌≡◌, refl, sym, ◌∙◌, ap}
use mathlib.Core.Bool.{false}
use mathlib.Core.List.{List, [], ◌∷◌, get_last_d}
use borrow.Author.Tests.{eqb-true}
use lib.Dec.{eqb}
use Rattle.cases.proofs.Cases.{split}
use Rattle.refusal.specs.First.{accepted}
use Rattle.ads1299_settings.specs.Settings.{Values}
use Rattle.planner.specs.Submission.{Submission}
use Rattle.planner.specs.Settings.{settings}
use Rattle.isolation.specs.Merges.{from, answers_to, values_for, accepted_values}
use Rattle.isolation.proofs.Held.{judged_own}
use Rattle.isolation.proofs.Own as one
use Rattle.lines.specs.Lines.{converter_count}
use Rattle.lines.proofs.Numbering.{below_four}
use Rattle.bench.specs.declared.Bench.{Bench}
use Rattle.bench.specs.Bench.{at, valid_bench}
use Rattle.bench.specs.Formed.{FormedBench}
use Rattle.bench_planner.specs.Local.{target, localised}
use Rattle.bench_planner.proofs.Worded.{here}
use Rattle.bench_isolation.specs.Reference.{reference_number, cells_after, numbers_from, cells_from}
use Rattle.bench_isolation.proofs.Held.{judged_here, reaches, set_here, kept_here}

-- two models have the same in a party's own cells of every converter
abbrev pub SameOwn : Bench → ℕ → Values → Values → Type 0
SameOwn b p c d = (k : ℕ) → k < converter_count → one.SameOwn (at b k) p (here k c) (here k d)

module _ (b : Bench) (h : FormedBench b) where
  -- the refusals read of the cells the sender's own alone
  number_own : (c d : Values) (x : Submission) → SameOwn b x.party c d → reference_number b c x ≡ reference_number b d x
  number_own c d x same =
      let k = target x in
      split (valid_bench b)
      (λ v.
      sym (judged_here b h c x v) ∙ judged_own (at b k) (here k c) (here k d) (localised x) (same k (below_four x.request.channel))
      ∙ judged_here b h d x v)
      (λ v. unfold reference_number in rw v)

  module _ (p : ℕ) where
    pub own_step : (c d : Values) (x : Submission) → x.party ≡ p → SameOwn b p c d → SameOwn b p (cells_after b c x) (cells_after b d x)
    own_step c d x e same k lt f m name own =
        split (reaches b x k)
        (λ q.
        sym (set_here b h c x k q f m name) ∙ one.own_step (at b k) p (here k c) (here k d) (localised x) e (same k lt) f m name own
        ∙ set_here b h d x k q f m name)
        (λ q. sym (kept_here b h c x k lt q f m name) ∙ same k lt f m name own ∙ kept_here b h d x k lt q f m name)

    pub other_step : (c d : Values) (x : Submission) → eqb x.party p ≡ false → SameOwn b p c d → SameOwn b p (cells_after b c x) d
    other_step c d x e same k lt f m name own =
        split (reaches b x k)
        (λ q. sym (set_here b h c x k q f m name) ∙ one.other_step (at b k) p (here k c) (here k d) (localised x) e (same k lt) f m name own)
        (λ q. sym (kept_here b h c x k lt q f m name) ∙ same k lt f m name own)

    pub own_cells : (l : List Submission) (c d : Values) → SameOwn b p c d → SameOwn b p (cells_from b c l) (cells_from b d (from p l))
    unfolding cells_from from
    own_cells [] c d same = same
    own_cells (x ∷ l) c d same =
        let later = own_cells l (cells_after b c x) in
        split (eqb x.party p)
        (λ e. rw e (later (cells_after b d x) (own_step c d x (eqb-true x.party p e) same)))
        (λ e. rw e (later d (other_step c d x e same)))

    pub own_numbers : (l : List Submission) (c d : Values) → SameOwn b p c d → answers_to p l (numbers_from b c l) ≡ numbers_from b d (from p l)
    unfolding numbers_from from answers_to
    own_numbers [] c d same = refl
    own_numbers (x ∷ l) c d same =
        let later = own_numbers l (cells_after b c x) in
        split (eqb x.party p)
        (λ e.
        let q = eqb-true x.party p e in
        rw (e, number_own c d x (rw q same), later (cells_after b d x) (own_step c d x q same)))
        (λ e. rw e (later d (other_step c d x e same)))

-- a cell is the last value that was accepted for it
pub cell_last : (b : Bench) (l : List Submission) (c : Values) (f n : ℕ)
    → cells_from b c l f n ≡ get_last_d (accepted_values f n l (numbers_from b c l)) (c f n)
unfolding cells_from numbers_from accepted_values
cell_last b [] c f n = unfold get_last_d in refl
cell_last b (x ∷ l) c f n =
    let r = x.request in
    let given = values_for r.channel (settings r) f n in
    let later = accepted_values f n l (numbers_from b (cells_after b c x) l) in
    cell_last b l (cells_after b c x) f n
    ∙ split (accepted (reference_number b c x))
    (λ e. unfold cells_after in rw e (ap (get_last_d later) (one.last_value (settings r) c r.channel f n) ∙ sym (one.last_append given later (c f n))))
    (λ e. unfold cells_after in rw e)
