-- Every list of requests follows the reference model: by induction on the list, with Held as its invariant.
use Rattle.std.specs.Prelude.{None}
use Prim.Native.Nat.{ℕ}
use mathlib.Core.Path.{◌≡◌, refl, ◌∙◌}
use mathlib.Core.Bool.{Bool, cond, ◌||◌}
use mathlib.Core.List.{List, [], ◌∷◌, flatten}
use Rattle.cases.proofs.Cases.{split}
use Rattle.refusal.specs.First.{accepted}
use Rattle.ads1299.specs.declared.Converter.{Converter}
use Rattle.ads1299.specs.State.{with_registers, with_output}
use Rattle.ads1299.specs.Formed.{Formed}
use Rattle.ads1299.specs.Run.{after}
use Rattle.planner.specs.Submission.{Submission}
use Rattle.ads1299_settings.specs.Settings.{Values}
use Rattle.planner.specs.Planned.{refusal_of, changed, plan, planned}
use Rattle.planner.proofs.Accepted.{number_is, next, next_formed}
use Rattle.demand2.proofs.Modes.{after_append}
use Rattle.demand2.proofs.Sent.{sent_plan}
use Rattle.isolation.specs.Reference.{first_cells, cells_after, cells_from, numbers_from}
use Rattle.isolation.specs.Lists.{numbers, plans, end, touched}
use Rattle.isolation.specs.Demand3.{AllFollowReference}
use Rattle.isolation.proofs.Held.{Held, held_first, refusal_is, held_next}

pub held_end : (l : List Submission) (s t : Converter) (c : Values) → Held s t c → Held s (end t l) (cells_from s c l)
unfolding end cells_from
held_end [] s t c k = k
held_end (x ∷ l) s t c k = held_end l s (next t x) (cells_after s c x) (held_next s t c k x)

pub numbers_are : (l : List Submission) (s t : Converter) (c : Values) → Held s t c → numbers t l ≡ numbers_from s c l
unfolding numbers numbers_from
numbers_are [] s t c k = refl
numbers_are (x ∷ l) s t c k = rw (number_is t x, refusal_is s t c k x, numbers_are l s (next t x) (cells_after s c x) (held_next s t c k x))

-- the output
pub rest_next : (s : Converter) (x : Submission) (l : List ℕ) (b : Bool)
    → with_output (with_registers (next s x) l) (cond b None (next s x).output)
    ≡ with_output (with_registers s l) (cond (accepted (refusal_of s x) || b) None s.output)
unfolding planned changed
rest_next s x l b = split (accepted (refusal_of s x)) (λ e. split b (λ q. rw (e, q, next)) (λ q. rw (e, q, next))) (λ e. rw (e, next))

all_else : (l : List Submission) (s : Converter)
    → end s l ≡ with_output (with_registers s (end s l).registers) (cond (touched (numbers s l)) None s.output)
unfolding end numbers touched
all_else [] s = refl
all_else (x ∷ l) s = rw (number_is s x) (all_else l (next s x) ∙ rest_next s x (end (next s x) l).registers (touched (numbers (next s x) l)))

-- the bytes
sent_plans : (l : List Submission) (s : Converter) → Formed s → after s (flatten (plans s l)) ≡ end s l
unfolding plans flatten end after
sent_plans [] s h = refl
sent_plans (x ∷ l) s h =
    after_append (plan s x) s (flatten (plans (next s x) l)) ∙ rw (sent_plan s h x) (sent_plans l (next s x) (next_formed s x h))

pub follows_reference : AllFollowReference
follows_reference s h l =
    let k = held_end l s s (first_cells s) (held_first s h) in
    record {
      reference_numbers_lem = numbers_are l s s (first_cells s) (held_first s h);
      fields = k.cells;
      free_bits = k.free;
      all_else = all_else l s;
      formed = k.formed;
      sent = sent_plans l s h;
    }
