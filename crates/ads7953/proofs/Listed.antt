-- The lowest listed channel, one channel at a time.
use Prim.Native.Nat.{ℕ, zero, suc, min, ◌+◌, ◌-◌, ◌≤◌, ◌<◌}
use mathlib.Core.Bool.{true, false}
use mathlib.Core.Path.{◌≡◌, sym, ap, ◌∙◌}
use native.Mathlib.Omega.{arith}
use borrow.Author.Tests.{lt-ltb, le-ltb, ltb-true, ltb-false}
use lib.Dec.{ltb}
use Rattle.std.specs.Prelude.{Option, None, Some}
use Rattle.std.specs.Option.{MatchOption}
use Rattle.cases.proofs.Cases.{split}
use Rattle.ads7953.specs.Scan.{channel_count, listed, listed_among, listed_from, found_from}

-- a channel, and those after it
from_step : (list channel : ℕ) → channel < channel_count → listed_from list channel ≡ listed_among list channel (suc (channel_count - (channel + 1)))
unfolding listed_from
from_step list channel h = let e : channel_count - channel ≡ suc (channel_count - (channel + 1)) = omega arith in ap (listed_among list channel) e

pub from_listed : (list channel : ℕ) → channel < channel_count → listed list channel ≡ true → listed_from list channel ≡ channel
unfolding listed_among
from_listed list channel h e = from_step list channel h ∙ rw e

pub from_skipped : (list channel : ℕ) → channel < channel_count → listed list channel ≡ false → listed_from list channel ≡ listed_from list (channel + 1)
unfolding listed_among listed_from
from_skipped list channel h e = from_step list channel h ∙ rw e

pub from_end : (list channel : ℕ) → channel_count ≤ channel → listed_from list channel ≡ channel
unfolding listed_among listed_from
from_end list channel h = let e : channel_count - channel ≡ 0 = omega arith in ap (listed_among list channel) e

-- channels that are not listed are passed over
passed_over : (list from to more : ℕ) → from + more ≡ to → to ≤ channel_count → ((k : ℕ) → from ≤ k → k < to → listed list k ≡ false) → listed_from list from ≡ listed_from list to
passed_over list from to zero n l h = let e : from ≡ to = omega arith in ap (listed_from list) e
passed_over list from to (suc more) n l h =
    from_skipped list from (omega arith) (h from (omega arith) (omega arith))
    ∙ passed_over list (from + 1) to more (omega arith) l (λ k a b. h k (omega arith) b)

not_found : (list from : ℕ) → channel_count ≤ listed_from list from → found_from list from ≡ None
unfolding found_from
not_found list from h = rw (le-ltb _ _ h)

-- from above the last channel none is found
pub none_found : (list from : ℕ) → channel_count ≤ from → found_from list from ≡ None
none_found list from h = not_found list from (rw (from_end list from h) h)

-- the first listed channel from one on, or that there is none, is what is found
pub first_found : (list from : ℕ) (r : Option ℕ)
    → MatchOption r ((k : ℕ) → from ≤ k → k < channel_count → listed list k ≡ false)
    (λ i. (from ≤ i) × (i < channel_count) × (listed list i ≡ true) × ((k : ℕ) → from ≤ k → k < i → listed list k ≡ false))
    → r ≡ found_from list from
unfolding found_from
first_found list from None h =
    split (ltb from channel_count)
    (λ b.
    let l = ltb-true from channel_count b in
    let e = passed_over list from channel_count (channel_count - from) (omega arith) (omega arith) h ∙ from_end list channel_count (omega arith) in
    sym (not_found list from (omega (arith, e))))
    (λ b. sym (none_found list from (ltb-false from channel_count b)))
first_found list from (Some i) h =
    let e : listed_from list from ≡ i = passed_over list from i (i - from) (omega (arith, h.0)) (omega (arith, h.1)) h.3 ∙ from_listed list i h.1 h.2 in
    rw (e, lt-ltb _ _ h.1)

-- a number that is held at 255 is no less above every channel
pub found_above : (list present : ℕ) → found_from list (min (present + 1) 255) ≡ found_from list (present + 1)
found_above list present =
    split (ltb present 255)
    (λ b. let l = ltb-true present 255 b in let e : min (present + 1) 255 ≡ present + 1 = omega arith in ap (found_from list) e)
    (λ b. let l = ltb-false present 255 b in none_found list _ (omega arith) ∙ sym (none_found list (present + 1) (omega arith)))
