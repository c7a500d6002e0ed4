-- A word's order passes through the multiplexer before it is replied; what the words order does not depend on the multiplexer.
use Prim.Native.Nat.{ℕ, zero, suc, ◌+◌, ◌<◌}
use mathlib.Core.Bool.{Bool, true, false, cond}
use mathlib.Core.List.{List, [], ◌∷◌}
use mathlib.Core.Path.{◌≡◌, refl, ap}
use native.Mathlib.Nat.{not-suc-le-zero, le_of_suc-le-suc}
use native.Mathlib.Omega.{arith}
use borrow.Author.Tests.{ltb-true, lt-leb}
use lib.Dec.{ltb}
use lib.ListN.{length, get_or}
use Rattle.cases.proofs.Cases.{and_both}
use Rattle.refusal.specs.Numbers.{none}
use Rattle.ads7953.specs.declared.words.Command.{Command}
use Rattle.ads7953.specs.declared.words.Command.TheVariants.{Continue, SelectManual, SelectAuto1, SelectAuto2, ProgramAuto1, ProgramAuto2}
use Rattle.ads7953.specs.declared.Ads7953.{Ads7953}
use Rattle.ads7953.specs.State.{with_channel, with_first}
use Rattle.ads7953.specs.Words.{decoded}
use Rattle.ads7953.specs.Latch.{advanced, programmed, restarts, manual_latched, auto_ordered, auto_latched, commanded, latched}
use Rattle.ads7953.specs.Frame.{valid, code_count, frame_refusal, replied, reply, selected, followed, framed}
use Rattle.ads7953.specs.Run.{Sent, words_of, codes_of, codes_fit, replies, orders}
use Rattle.ads7953.specs.Lag.{RepliedTwoLater}
use Rattle.ads7953.proofs.Valid.{parts, whole}
use Rattle.ads7953.proofs.StaysValid.{followed_valid}

-- what is done after either side of a choice is done after the choice
pub through : {A : Type 0} (g : A → A) (b : Bool) {x y x' y' : A} → x' ≡ g x → y' ≡ g y → cond b x' y' ≡ g (cond b x y)
through g true p q = p
through g false p q = q

-- the multiplexer's channel and the mark of the first frame are carried through a word unseen
module _ (s : Ads7953) (channel : ℕ) (first : Bool) (w : ℕ) where
  commanded_unseen : (c : Command) → commanded c (with_first (with_channel s channel) first) w ≡ with_first (with_channel (commanded c s w) channel) first
  unfolding commanded advanced manual_latched auto_latched auto_ordered programmed restarts
  commanded_unseen Continue = refl
  commanded_unseen SelectManual = refl
  commanded_unseen SelectAuto1 = refl
  commanded_unseen SelectAuto2 = refl
  commanded_unseen ProgramAuto1 = refl
  commanded_unseen ProgramAuto2 = refl

  unseen : latched (with_first (with_channel s channel) first) w ≡ with_first (with_channel (latched s w) channel) first
  unfolding latched advanced
  unseen = through (λ (t : Ads7953). with_first (with_channel t channel) first) s.programming refl (commanded_unseen (decoded w))

orders_unseen : (words : List ℕ) (s : Ads7953) (channel : ℕ) (first : Bool) → orders (with_first (with_channel s channel) first) words ≡ orders s words
unfolding orders
orders_unseen [] s channel first = refl
orders_unseen (w ∷ words) s channel first = rw (unseen s channel first w) (ap (λ (l : List ℕ). (latched s w).ordered ∷ l) (orders_unseen words (latched s w) channel first))

-- the state after a frame that is taken
abbrev pub moved : Ads7953 → ℕ → Ads7953
moved s w = with_first (with_channel (latched s w) s.ordered) false

followed_moved : (s : Ads7953) (w : ℕ) → followed s w ≡ moved s w
unfolding followed selected
followed_moved s w = unseen s s.ordered false w

module _ (s : Ads7953) (v : valid s ≡ true) where
  pub moved_valid : (w : ℕ) → valid (moved s w) ≡ true
  moved_valid w = rw (followed_moved s w) at (whole _ (followed_valid s w (parts s v)))

  pub framed_taken : (w code : ℕ) → code < code_count → framed s w code ≡ record { refusal = none; reply = reply s code; next = moved s w }
  unfolding framed frame_refusal
  framed_taken w code h = rw (v, lt-leb _ _ h, followed_moved s w)

-- of frames that fit, the first is taken, and the others meet the state after it
module _ (s : Ads7953) (f : Sent) (frames : List Sent) (v : valid s ≡ true) (c : codes_fit (f ∷ frames) ≡ true) where
  fits : (ltb f.code code_count ≡ true) × (codes_fit frames ≡ true)
  fits = and_both (ltb f.code code_count) (codes_fit frames) c

  one : replies s (f ∷ frames) ≡ reply s f.code ∷ replies (moved s f.word) frames
  unfolding replies
  one = rw (framed_taken s v f.word f.code (ltb-true _ _ fits.0))

first_reply : (s : Ads7953) (frames : List Sent) → valid s ≡ true → codes_fit frames ≡ true → 0 < length frames
    → get_or (replies s frames) 0 0 ≡ cond s.first 0 (replied s.channel (get_or (codes_of frames) 0 0))
unfolding reply
first_reply s [] v c h = absurd (not-suc-le-zero h)
first_reply s (f ∷ frames) v c h = rw (one s f frames v c)

second_reply : (s : Ads7953) (frames : List Sent) → valid s ≡ true → codes_fit frames ≡ true → 1 < length frames
    → get_or (replies s frames) 1 0 ≡ replied s.ordered (get_or (codes_of frames) 1 0)
second_reply s [] v c h = absurd (not-suc-le-zero h)
second_reply s (f ∷ frames) v c h = rw (one s f frames v c) (first_reply (moved s f.word) frames (moved_valid s v f.word) (fits s f frames v c).1 (le_of_suc-le-suc h))

later_reply : (n : ℕ) (s : Ads7953) (frames : List Sent) → valid s ≡ true → codes_fit frames ≡ true → suc (suc n) < length frames
    → get_or (replies s frames) (suc (suc n)) 0 ≡ replied (get_or (orders s (words_of frames)) n 0) (get_or (codes_of frames) (suc (suc n)) 0)
unfolding orders
later_reply n s [] v c h = absurd (not-suc-le-zero h)
later_reply zero s (f ∷ frames) v c h =
    rw (one s f frames v c) (second_reply (moved s f.word) frames (moved_valid s v f.word) (fits s f frames v c).1 (le_of_suc-le-suc h))
later_reply (suc n) s (f ∷ frames) v c h =
    rw (one s f frames v c, ← orders_unseen (words_of frames) (latched s f.word) s.ordered false)
    (later_reply n (moved s f.word) frames (moved_valid s v f.word) (fits s f frames v c).1 (le_of_suc-le-suc h))

pub replied_two_later : RepliedTwoLater
replied_two_later s frames v c =
    record {
      first = first_reply s frames v c;
      second = second_reply s frames v c;
      later = λ n h. let e : n + 2 ≡ suc (suc n) = omega arith in rw e (later_reply n s frames v c (omega arith));
    }
