-- A mode goes from each channel of its round to the next, and from the last back to the first.
use Prim.Native.Nat.{ℕ, zero, suc, ◌+◌, ◌-◌, ◌%◌, ◌≤◌, ◌<◌}
use mathlib.Core.Bool.{Bool, true, false}
use mathlib.Core.List.{List, [], ◌∷◌}
use mathlib.Core.Path.{◌≡◌, refl, sym, ap, ◌∙◌}
use native.Mathlib.Nat.{zero-add, mod-lt, zero-mod, mod-eq_of_lt, mod_self, mod-one, suc-mod, not-suc-le-zero}
use native.Mathlib.Omega.{arith}
use borrow.Author.Tests.{ltb-true, ltb-false, lt-ltb, le-ltb, le-leb, lt-leb}
use lib.Dec.{ltb, leb}
use lib.ListN.{length, get_or, drop, replicate, drop_of_length-le}
use lib.Seq.{drop-cons}
use Rattle.cases.proofs.Cases.{split}
use Rattle.ads7953.specs.declared.Mode.{Mode}
use Rattle.ads7953.specs.declared.Mode.TheVariants.{Manual, Auto1, Auto2}
use Rattle.ads7953.specs.declared.words.Command.{Command}
use Rattle.ads7953.specs.declared.Ads7953.{Ads7953}
use Rattle.ads7953.specs.Words.{decoded, channel_in}
use Rattle.ads7953.specs.Scan.{channel_count, listed, listed_among, listed_from, lowest_listed, next_listed, next_up_to, next_in}
use Rattle.ads7953.specs.Latch.{advanced, programmed, manual_latched, auto_ordered, auto_latched, commanded, latched}
use Rattle.ads7953.specs.Frame.{valid}
use Rattle.ads7953.specs.Run.{orders}
use Rattle.ads7953.specs.Rounds.{channels_from, channels, round, selecting, starts_anew, RoundsRepeat}
use Rattle.ads7953.proofs.Valid.{parts}
use Rattle.ads7953.proofs.Latched.{as_command, zero_advances}

-- a list that is a first element and a rest is not empty
cons_not_nil : {a : ℕ} {rest : List ℕ} → a ∷ rest ≡ [] → ⊥
cons_not_nil e = omega (arith, ap length e)

-- the first element of equal lists, and the rest
same_first : {a b : ℕ} {xs ys : List ℕ} → a ∷ xs ≡ b ∷ ys → a ≡ b
same_first e = ap (λ (l : List ℕ). get_or l 0 0) e

same_rest : {a b : ℕ} {xs ys : List ℕ} → a ∷ xs ≡ b ∷ ys → xs ≡ ys
same_rest e = ap (drop 1) e

-- what a list of channels that starts with one says of it: it passes, it lies among those that were tested, and the rest are those after it
record Starts (test : ℕ → Bool) (end a : ℕ) (rest : List ℕ) : Type 0 where
  below : a < end
  others : rest ≡ channels_from test (a + 1) (end - (a + 1))

starts : (test : ℕ → Bool) (more channel a end : ℕ) (rest : List ℕ) → channel + more ≡ end → channels_from test channel more ≡ a ∷ rest → Starts test end a rest
unfolding channels_from
starts test zero channel a end rest n e = absurd (cons_not_nil (sym e))
starts test (suc more) channel a end rest n e =
    split (test channel)
    (λ t.
    let f : channel ∷ channels_from test (channel + 1) more ≡ a ∷ rest = rw t at e in
    let one = same_first f in
    let k : end - (a + 1) ≡ more = omega arith in
    let j : a + 1 ≡ channel + 1 = omega arith in
    record { below = omega arith; others = rw (k, j) (sym (same_rest f)) })
    (λ t. starts test more (channel + 1) a end rest (omega arith) (rw t at e))

-- the channels after one that are tested end with the last of all
within : (test : ℕ → Bool) (x a : ℕ) (rest : List ℕ) → channels_from test (x + 1) (channel_count - (x + 1)) ≡ a ∷ rest → x + 1 + (channel_count - (x + 1)) ≡ channel_count
unfolding channels_from
within test x a rest e =
    split (ltb x channel_count) (λ t. omega (arith, ltb-true x channel_count t))
    (λ t. let z : channel_count - (x + 1) ≡ 0 = omega (arith, ltb-false x channel_count t) in absurd (cons_not_nil (sym (rw z at e))))

-- a step goes on to the next channel that passes the test, and where none is left to the first of all
record Robin (test : ℕ → Bool) (step : ℕ → ℕ) : Type 0 where
  on : (x y : ℕ) (rest : List ℕ) → channels_from test (x + 1) (channel_count - (x + 1)) ≡ y ∷ rest → step x ≡ y
  over : (x : ℕ) → channels_from test (x + 1) (channel_count - (x + 1)) ≡ [] → step x ≡ get_or (channels test) 0 0

-- so many steps
iterated : (ℕ → ℕ) → ℕ → ℕ → ℕ
iterated step zero x = x
iterated step (suc n) x = iterated step n (step x)

module _ (test : ℕ → Bool) (step : ℕ → ℕ) (robin : Robin test step) (some : 0 < length (channels test)) where
  -- after place i of the round come the channels after the one that stands there
  tail_is : (i : ℕ) → i < length (channels test) → drop (suc i) (channels test) ≡ channels_from test (get_or (channels test) i 0 + 1) (channel_count - (get_or (channels test) i 0 + 1))
  tail_is zero h = (starts test channel_count 0 _ channel_count _ refl (drop-cons (channels test) 0 0 h)).others
  tail_is (suc i) h =
      let x = get_or (channels test) i 0 in
      let one : channels_from test (x + 1) (channel_count - (x + 1)) ≡ get_or (channels test) (suc i) 0 ∷ drop (suc (suc i)) (channels test) =
      sym (tail_is i (omega arith)) ∙ drop-cons (channels test) (suc i) 0 h in
      (starts test (channel_count - (x + 1)) (x + 1) _ channel_count _ (within test x _ _ one) one).others

  step_is : (i : ℕ) → i < length (channels test) → step (get_or (channels test) i 0) ≡ get_or (channels test) (suc i % length (channels test)) 0
  step_is i h =
      let x = get_or (channels test) i 0 in
      split (ltb (suc i) (length (channels test)))
      (λ t.
      let g = ltb-true (suc i) (length (channels test)) t in
      robin.on x _ _ (sym (tail_is i h) ∙ drop-cons (channels test) (suc i) 0 g) ∙ rw (mod-eq_of_lt g))
      (λ t.
      let g = ltb-false (suc i) (length (channels test)) t in
      let e : suc i ≡ length (channels test) = omega arith in
      robin.over x (sym (tail_is i h) ∙ drop_of_length-le (channels test) {i = suc i} g) ∙ rw (e, mod_self (length (channels test))))

  -- so many steps from a place of the round
  walk : (n i : ℕ) → iterated step n (get_or (channels test) (i % length (channels test)) 0) ≡ get_or (channels test) ((i + n) % length (channels test)) 0
  unfolding iterated
  walk zero i = let e : i + 0 ≡ i = omega arith in rw e
  walk (suc n) i =
      let e : i + suc n ≡ suc i + n = omega arith in
      rw (step_is (i % length (channels test)) (mod-lt i some), ← suc-mod i (length (channels test)), e) (walk n (suc i))

  -- and from its first
  rounded : (n : ℕ) → iterated step n (get_or (channels test) 0 0) ≡ get_or (channels test) (n % length (channels test)) 0
  rounded n = rw (zero-mod (length (channels test)), zero-add n) at (walk n 0)

-- auto-1: the lowest listed channel of some, and what it is where none is listed
among_first : (list more channel a : ℕ) (rest : List ℕ) → channels_from (listed list) channel more ≡ a ∷ rest → listed_among list channel more ≡ a
unfolding channels_from listed_among
among_first list zero channel a rest e = absurd (cons_not_nil (sym e))
among_first list (suc more) channel a rest e =
    split (listed list channel) (λ t. rw t (same_first (rw t at e))) (λ t. rw t (among_first list more (channel + 1) a rest (rw t at e)))

among_none : (list more channel : ℕ) → channels_from (listed list) channel more ≡ [] → listed_among list channel more ≡ channel + more
unfolding channels_from listed_among
among_none list zero channel e = omega arith
among_none list (suc more) channel e =
    split (listed list channel) (λ t. absurd (cons_not_nil (rw t at e))) (λ t. rw t (among_none list more (channel + 1) (rw t at e) ∙ omega arith))

-- a round that is not empty starts with the lowest listed channel
lowest_first : (list x : ℕ) → 0 < length (channels (listed list)) → lowest_listed list x ≡ get_or (channels (listed list)) 0 0
unfolding lowest_listed listed_from
lowest_first list x h =
    let e = drop-cons (channels (listed list)) 0 0 h in
    let a = among_first list channel_count 0 _ _ e in
    rw (a, lt-ltb _ _ (starts (listed list) channel_count 0 _ channel_count _ refl e).below)

auto1_robin : (list : ℕ) → 0 < length (channels (listed list)) → Robin (listed list) (next_listed list)
unfolding next_listed listed_from
auto1_robin list h =
    record {
      on = λ x y rest e. rw (among_first list (channel_count - (x + 1)) (x + 1) y rest e, lt-ltb y channel_count (starts (listed list) (channel_count - (x + 1)) (x + 1) y channel_count rest (within (listed list) x y rest e) e).below);
      over = λ x e. rw (among_none list (channel_count - (x + 1)) (x + 1) e, le-ltb (x + 1 + (channel_count - (x + 1))) channel_count (omega arith)) (lowest_first list x h);
    }

-- auto-2: above the last channel none passes, and up to it the first that is tested does
none_above : (last more channel : ℕ) → last < channel → channels_from (λ c. leb c last) channel more ≡ []
unfolding channels_from
none_above last zero channel h = refl
none_above last (suc more) channel h = rw (lt-leb channel last h) (none_above last more (channel + 1) (omega arith))

first_below : (last more channel : ℕ) → channel ≤ last → 0 < more → channels_from (λ c. leb c last) channel more ≡ channel ∷ channels_from (λ c. leb c last) (channel + 1) (more - 1)
unfolding channels_from
first_below last zero channel h k = absurd (not-suc-le-zero k)
first_below last (suc more) channel h k = let e : suc more - 1 ≡ more = omega arith in rw (le-leb channel last h, e)

auto2_first : (last : ℕ) → get_or (channels (λ c. leb c last)) 0 0 ≡ 0
auto2_first last = rw (first_below last channel_count 0 (omega arith) (omega arith))

auto2_robin : (last : ℕ) → last < channel_count → Robin (λ c. leb c last) (next_up_to last)
unfolding next_up_to
auto2_robin last l =
    record {
      on = λ x y rest e. split (ltb x last)
          (λ t.
          let g = ltb-true x last t in
          rw t (same_first (sym (first_below last (channel_count - (x + 1)) (x + 1) (omega arith) (omega arith)) ∙ e)))
          (λ t. let g = ltb-false x last t in absurd (cons_not_nil (sym e ∙ none_above last (channel_count - (x + 1)) (x + 1) (omega arith))));
      over = λ x e. split (ltb x last)
          (λ t.
          let g = ltb-true x last t in
          absurd (cons_not_nil (sym (first_below last (channel_count - (x + 1)) (x + 1) (omega arith) (omega arith)) ∙ e)))
          (λ t. rw (t, auto2_first last));
    }

continued : (n : ℕ) (s : Ads7953) → s.programming ≡ false → get_or (s.ordered ∷ orders s (replicate n 0)) n 0 ≡ iterated (next_in s.mode s.list s.last) n s.ordered
unfolding orders iterated advanced
continued zero s p = refl
continued (suc n) s p = ap (λ (t : Ads7953). get_or (t.ordered ∷ orders t (replicate n 0)) n 0) (zero_advances s p) ∙ continued n (advanced s) p

manual_stays : (n list last x : ℕ) → iterated (next_in Manual list last) n x ≡ x
unfolding iterated
manual_stays zero list last x = refl
manual_stays (suc n) list last x = manual_stays n list last x

-- a mode that a word starts anew, and that goes on from there
module _ (s : Ads7953) (w : ℕ) (v : valid s ≡ true) (p : s.programming ≡ false) where
  selected_by : (mode : Mode) → decoded w ≡ selecting mode → latched s w ≡ commanded (selecting mode) s w
  selected_by mode e = as_command s w p ∙ ap (λ (c : Command). commanded c s w) e

  rounds : (mode : Mode) → decoded w ≡ selecting mode → starts_anew mode s w ≡ true → 0 < length (round mode s w)
      → (n : ℕ) → get_or ((latched s w).ordered ∷ orders (latched s w) (replicate n 0)) n 0 ≡ get_or (round mode s w) (n % length (round mode s w)) 0
  unfolding commanded manual_latched auto_latched auto_ordered programmed
  rounds Manual e a h n =
      rw (selected_by Manual e, mod-one n) (continued n (manual_latched s w) p ∙ manual_stays n s.list s.last (channel_in w))
  rounds Auto1 e a h n =
      let f = lowest_first s.list s.ordered h in
      rw (selected_by Auto1 e) (continued n (auto_latched s Auto1 w) p ∙ rw (a, f) (rounded (listed s.list) (next_listed s.list) (auto1_robin s.list h) h n))
  rounds Auto2 e a h n =
      rw (selected_by Auto2 e) (continued n (auto_latched s Auto2 w) p ∙ rw a (ap (iterated (next_up_to s.last) n) (sym (auto2_first s.last)) ∙ rounded (λ c. leb c s.last) (next_up_to s.last) (auto2_robin s.last (parts s v).last) h n))

pub rounds_repeat : RoundsRepeat
unfolding orders
rounds_repeat mode s w v p e a h n = rounds s w v p mode e a h n
