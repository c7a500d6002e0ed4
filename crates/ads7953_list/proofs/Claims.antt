-- Where a plan lies, and what it does.
use Prim.Native.Nat.{ℕ, ◌+◌, ◌*◌, ◌/◌, ◌%◌, ◌<◌}
use mathlib.Core.Bool.{Bool, true, false}
use mathlib.Core.List.{List, [], ◌∷◌}
use mathlib.Core.Path.{◌≡◌, refl, sym, ap, ◌∙◌}
use native.Mathlib.Omega.{arith}
use borrow.Author.Tests.{eqb-true, eq-eqb, ne_eqb}
use Rattle.cases.proofs.Cases.{split}
use Rattle.refusal.specs.Numbers.{none}
use Rattle.refusal.specs.First.{accepted}
use Rattle.splice.specs.Splice.{room_at}
use Rattle.splice.specs.Laws.{Laid}
use Rattle.splice.proofs.Splice.{fitting_laid}
use Rattle.ads7953.specs.declared.Mode.{Mode}
use Rattle.ads7953.specs.declared.Mode.TheVariants.{Manual, Auto1, Auto2}
use Rattle.ads7953.specs.declared.Ads7953.{Ads7953}
use Rattle.ads7953.specs.State.{state, with_channel, with_ordered, with_list, with_first}
use Rattle.ads7953.specs.Scan.{next_listed, next_in}
use Rattle.ads7953.specs.Latch.{advanced}
use Rattle.ads7953.specs.Frame.{valid, code_count, reply}
use Rattle.ads7953.specs.Run.{Sent, sent, after, replies}
use Rattle.ads7953.specs.OutsideAuto1.{not_auto1}
use Rattle.ads7953.proofs.Latched.{as_list, programming_entered, zero_advances}
use Rattle.ads7953.proofs.OutsideAuto1.{next_same}
use Rattle.ads7953.proofs.Lag.{moved, moved_valid, framed_taken}
use Rattle.ads7953_list.specs.Planned.{list_plan, list_refusal, list_tx_after}
use Rattle.ads7953_list.specs.Claims.{Placement, Programs, PlanSetsList, planned, idled}
use Rattle.ads7953_list.proofs.Accepted.{passed, within}

pub placement : Placement
unfolding list_tx_after
placement s party list tx at =
    let number = list_refusal s party list (room_at tx at) in
    let laid : number ≡ none → Laid tx at (list_plan list) = λ z. fitting_laid tx at (list_plan list) (within s party list tx at z) in
    record {
      size = split (accepted number) (λ a. rw a (laid (eqb-true _ _ a)).size) (λ a. rw a);
      accepted = λ z. let a : accepted number ≡ true = eq-eqb _ _ z in record { bytes = rw a (laid z).found; before = rw a (laid z).before; after = rw a (laid z).after };
      refused = λ z. let a : accepted number ≡ false = ne_eqb _ _ z in rw a;
    }

-- a frame that is taken, and those after it
module _ (s : Ads7953) (v : valid s ≡ true) (w code : ℕ) (h : code < code_count) (frames : List Sent) where
  after_one : after s (sent w code ∷ frames) ≡ after (moved s w) frames
  unfolding after
  after_one = rw (framed_taken s v w code h)

  replies_one : replies s (sent w code ∷ frames) ≡ reply s code ∷ replies (moved s w) frames
  unfolding replies
  replies_one = rw (framed_taken s v w code h)

module _ (s : Ads7953) (v : valid s ≡ true) (p : s.programming ≡ false) where
  -- the channel that both runs order first
  abbrev ordered : ℕ
  ordered = next_in s.mode s.list s.last s.ordered

  entered : moved s 0x8000 ≡ state s.mode s.ordered ordered s.list s.last s.range2 s.reset true false
  unfolding advanced
  entered = ap (λ (t : Ads7953). with_first (with_channel t s.ordered) false) (programming_entered s p)

  idle : moved s 0 ≡ state s.mode s.ordered ordered s.list s.last s.range2 s.reset s.programming false
  unfolding advanced
  idle = ap (λ (t : Ads7953). with_first (with_channel t s.ordered) false) (zero_advances s p)

-- the same after the second frame: with the list, and with 0000h
module _ (s : Ads7953) (v : valid s ≡ true) (p : s.programming ≡ false) (list first second : ℕ) (l : list < 65536) (h : first < code_count) (k : second < code_count) where
  abbrev half : Ads7953
  half = state s.mode s.ordered (ordered s v p) s.list s.last s.range2 s.reset true false

  abbrev rested : Ads7953
  rested = state s.mode s.ordered (ordered s v p) s.list s.last s.range2 s.reset s.programming false

  half_valid : valid half ≡ true
  half_valid = ap valid (sym (entered s v p)) ∙ moved_valid s v 0x8000

  rested_valid : valid rested ≡ true
  rested_valid = ap valid (sym (idle s v p)) ∙ moved_valid s v 0

  -- the list's two bytes are its word
  joined : list / 256 * 256 + list % 256 ≡ list
  joined = omega arith

  after_plan : after s (planned list first second)
      ≡ state s.mode (ordered s v p) (next_in s.mode list s.last (ordered s v p)) list s.last s.range2 s.reset false false
  unfolding after advanced
  after_plan =
      after_one s v 0x8000 first h (sent (list / 256 * 256 + list % 256) second ∷ [])
      ∙ ap (λ (t : Ads7953). after t (sent (list / 256 * 256 + list % 256) second ∷ [])) (entered s v p)
      ∙ ap (λ (w : ℕ). after half (sent w second ∷ [])) joined
      ∙ after_one half half_valid list second k []
      ∙ ap (λ (t : Ads7953). with_first (with_channel t (ordered s v p)) false) (as_list half list refl)

  after_idle : after s (idled first second)
      ≡ state s.mode (ordered s v p) (next_in s.mode s.list s.last (ordered s v p)) s.list s.last s.range2 s.reset s.programming false
  unfolding after advanced
  after_idle =
      after_one s v 0 first h (sent 0 second ∷ [])
      ∙ ap (λ (t : Ads7953). after t (sent 0 second ∷ [])) (idle s v p)
      ∙ after_one rested rested_valid 0 second k []
      ∙ ap (λ (t : Ads7953). with_first (with_channel t (ordered s v p)) false) (zero_advances rested p)

  same_replies : replies s (planned list first second) ≡ replies s (idled first second)
  unfolding replies reply
  same_replies =
      replies_one s v 0x8000 first h (sent (list / 256 * 256 + list % 256) second ∷ [])
      ∙ ap (λ (t : Ads7953). reply s first ∷ replies t (sent (list / 256 * 256 + list % 256) second ∷ [])) (entered s v p)
      ∙ ap (λ (r : List ℕ). reply s first ∷ r) (replies_one half half_valid (list / 256 * 256 + list % 256) second k [] ∙ sym (replies_one rested rested_valid 0 second k []))
      ∙ ap (λ (t : Ads7953). reply s first ∷ replies t (sent 0 second ∷ [])) (sym (idle s v p))
      ∙ sym (replies_one s v 0 first h (sent 0 second ∷ []))

  first_idle : (after s (sent 0 first ∷ [])).ordered ≡ ordered s v p
  unfolding after
  first_idle = ap (λ (t : Ads7953). t.ordered) (after_one s v 0 first h [] ∙ idle s v p)

  -- in auto-1 mode the next channel is the next listed one
  inside : (mode : Mode) (x : ℕ) → (not_auto1 mode ≡ true → ⊥) → next_in mode list s.last x ≡ next_listed list x
  inside Manual x n = absurd (n refl)
  inside Auto1 x n = refl
  inside Auto2 x n = absurd (n refl)

  programs : Programs s list first second
  programs =
      record {
        list_set = ap (λ (t : Ads7953). t.list) after_plan;
        same_replies = same_replies;
        same_rest =
            after_plan
            ∙ ap (λ (b : Bool). state s.mode (ordered s v p) (next_in s.mode list s.last (ordered s v p)) list s.last s.range2 s.reset b false) (sym p)
            ∙ sym (λ i. with_ordered (with_list (after_idle i) list) (after_plan i).ordered);
        same_order = λ n. ap (λ (t : Ads7953). t.ordered) after_plan ∙ next_same s.mode s.list list s.last (ordered s v p) n ∙ sym (ap (λ (t : Ads7953). t.ordered) after_idle);
        auto1_order = λ n. ap (λ (t : Ads7953). t.ordered) after_plan ∙ inside s.mode (ordered s v p) n ∙ sym (ap (next_listed list) first_idle);
      }

pub plan_sets_list : PlanSetsList
plan_sets_list s party list room first second e l h k =
    let a = passed s party list room e in
    programs s a.passed a.idle list first second l h k
