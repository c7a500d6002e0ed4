-- A word that neither finds nor selects auto-1 mode does the same with any list.
use Prim.Native.Nat.{ℕ}
use mathlib.Core.Bool.{Bool, true, false, cond, false≢true}
use mathlib.Core.List.{List, [], ◌∷◌}
use mathlib.Core.Path.{◌≡◌, refl, sym, ap, ◌∙◌, subst}
use Rattle.cases.proofs.Cases.{split, and_both}
use Rattle.refusal.specs.First.{accepted}
use Rattle.ads7953.specs.declared.Mode.{Mode}
use Rattle.ads7953.specs.declared.Mode.TheVariants.{Manual, Auto1, Auto2}
use Rattle.ads7953.specs.declared.words.Command.{Command}
use Rattle.ads7953.specs.declared.words.Command.TheVariants.{Continue, SelectManual, SelectAuto1, SelectAuto2, ProgramAuto1, ProgramAuto2}
use Rattle.ads7953.specs.declared.Ads7953.{Ads7953}
use Rattle.ads7953.specs.State.{with_ordered, with_list, with_programming}
use Rattle.ads7953.specs.Words.{decoded}
use Rattle.ads7953.specs.Scan.{next_in}
use Rattle.ads7953.specs.Latch.{advanced, programmed, restarts, manual_latched, auto_ordered, auto_latched, commanded, latched}
use Rattle.ads7953.specs.Frame.{valid, frame_refusal, reply, selected, followed, framed}
use Rattle.ads7953.specs.Run.{Sent, after, replies}
use Rattle.ads7953.specs.OutsideAuto1.{not_auto1, outside_auto1, ListInAuto1Alone}

-- the next channel is the same with any list
pub next_same : (mode : Mode) (list other last x : ℕ) → not_auto1 mode ≡ true → next_in mode other last x ≡ next_in mode list last x
next_same Manual list other last x n = refl
next_same Auto1 list other last x n = absurd (false≢true n)
next_same Auto2 list other last x n = refl

module _ (s : Ads7953) (list : ℕ) where
  advanced_same : not_auto1 s.mode ≡ true → advanced (with_list s list) ≡ with_list (advanced s) list
  unfolding advanced
  advanced_same n = ap (λ (x : ℕ). with_ordered (with_list s list) x) (next_same s.mode s.list list s.last s.ordered n)

-- a word that is no list
module _ (s : Ads7953) (list w : ℕ) (n : not_auto1 s.mode ≡ true) where
  commanded_same : (c : Command) → not_auto1 (commanded c s w).mode ≡ true → commanded c (with_list s list) w ≡ with_list (commanded c s w) list
  unfolding commanded manual_latched auto_latched auto_ordered programmed restarts advanced
  commanded_same Continue m = advanced_same s list n
  commanded_same SelectManual m = refl
  commanded_same SelectAuto1 m = absurd (false≢true m)
  commanded_same SelectAuto2 m = refl
  commanded_same ProgramAuto1 m = advanced_same (with_programming s true) list n
  commanded_same ProgramAuto2 m = advanced_same _ list n

  -- a word, which may be a list: then both have it
  latched_same : not_auto1 (latched s w).mode ≡ true → latched (with_list s list) w ≡ with_list (latched s w) (cond s.programming w list)
  unfolding latched advanced
  latched_same = by s.programming (commanded_same (decoded w))
    where
      by : (p : Bool) → (not_auto1 (commanded (decoded w) s w).mode ≡ true → commanded (decoded w) (with_list s list) w ≡ with_list (commanded (decoded w) s w) list)
          → not_auto1 (cond p (advanced (with_programming (with_list s w) false)) (commanded (decoded w) s w)).mode ≡ true
          → cond p (advanced (with_programming (with_list s w) false)) (commanded (decoded w) (with_list s list) w)
          ≡ with_list (cond p (advanced (with_programming (with_list s w) false)) (commanded (decoded w) s w)) (cond p w list)
      by true h m = refl
      by false h m = h m

-- a frame that is taken, and one that is refused
module _ (s : Ads7953) (w code : ℕ) where
  taken : accepted (frame_refusal s code) ≡ true → ((framed s w code).reply ≡ reply s code) × ((framed s w code).next ≡ followed s w)
  unfolding framed
  taken a = rw a (refl, refl)

  refused : accepted (frame_refusal s code) ≡ false → ((framed s w code).reply ≡ 0) × ((framed s w code).next ≡ s)
  unfolding framed
  refused a = rw a (refl, refl)

-- with another list the frame is refused in the same cases; `left` is the list after it
module _ (s : Ads7953) (list w code : ℕ) (n : not_auto1 s.mode ≡ true) where
  abbrev left : ℕ
  left = cond (accepted (frame_refusal s code)) (cond s.programming w list) list

  reply_same : (framed (with_list s list) w code).reply ≡ (framed s w code).reply
  unfolding frame_refusal valid reply
  reply_same =
      split (accepted (frame_refusal s code))
      (λ a. (taken (with_list s list) w code a).0 ∙ sym (taken s w code a).0)
      (λ a. (refused (with_list s list) w code a).0 ∙ sym (refused s w code a).0)

  next_frame_same : not_auto1 (framed s w code).next.mode ≡ true → (framed (with_list s list) w code).next ≡ with_list (framed s w code).next left
  unfolding frame_refusal valid followed selected
  next_frame_same m =
      split (accepted (frame_refusal s code))
      (λ a.
      let t = (taken s w code a).1 in
      let h = latched_same (selected s) list w n (sym (ap (λ (r : Ads7953). not_auto1 r.mode) t) ∙ m) in
      rw a ((taken (with_list s list) w code a).1 ∙ h ∙ ap (λ (r : Ads7953). with_list r (cond s.programming w list)) (sym t)))
      (λ a. rw a ((refused (with_list s list) w code a).1 ∙ ap (λ (r : Ads7953). with_list r list) (sym (refused s w code a).1)))

starts_outside : (s : Ads7953) (frames : List Sent) → outside_auto1 s frames ≡ true → not_auto1 s.mode ≡ true
unfolding outside_auto1
starts_outside s [] o = o
starts_outside s (f ∷ frames) o = (and_both (not_auto1 s.mode) _ o).0

pub list_in_auto1_alone : ListInAuto1Alone
unfolding outside_auto1 replies after
list_in_auto1_alone s list [] o = record { replies = refl; rest = refl }
list_in_auto1_alone s list (f ∷ frames) o =
    let next = (framed s f.word f.code).next in
    let b = and_both (not_auto1 s.mode) (outside_auto1 next frames) o in
    let same = next_frame_same s list f.word f.code b.0 (starts_outside next frames b.1) in
    let rest = list_in_auto1_alone next (left s list f.word f.code b.0) frames b.1 in
    record {
      replies = rw (reply_same s list f.word f.code b.0, same) (ap (λ (l : List ℕ). (framed s f.word f.code).reply ∷ l) rest.replies);
      rest = subst (λ (t : Ads7953). after t frames ≡ with_list (after next frames) (after t frames).list) (sym same) rest.rest;
    }
