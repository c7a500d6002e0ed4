-- Bytes in an array that is longer, 0 past them.
use mathlib.Core.List.{List, [], ◌∷◌, ◌++◌, append-nil}
use mathlib.Core.Path.{◌≡◌, sym, ap, ◌∙◌}
use Prim.Native.Nat.{ℕ, ◌+◌, ◌-◌, ◌≤◌, ◌<◌}
use native.Mathlib.Omega.{arith}
use lib.ListN.{length, take, drop, set, replicate, length-append, length-replicate, replicate-append-replicate}
use Rattle.std.proofs.lemmas.List.{length-set, drop-set-lt, take-append-drop}
use lib.Seq.{drop_at, drop-drop, length-take-le}
use Rattle.leb128.specs.Encoding.{padded}
use Rattle.request.specs.Requests.{most_values, most_numbers, fewest_numbers, request_of}

abbrev pub zeros : ℕ → List ℕ
zeros n = replicate n 0

length_zeros : (n : ℕ) → length (zeros n) ≡ n
length_zeros n = length-replicate n _

join_zeros : (n m : ℕ) → zeros n ++ zeros m ≡ zeros (n + m)
join_zeros n m = replicate-append-replicate n m _

pub drop_zeros : (g n : ℕ) → g ≤ n → drop g (zeros n) ≡ zeros (n - g)
drop_zeros g n h =
    let e : n ≡ g + (n - g) = omega arith in
    ap (λ (k : ℕ). drop g (zeros k)) e ∙ ap (λ (l : List ℕ). drop g l) (sym (join_zeros g (n - g))) ∙ drop_at (zeros g) (zeros (n - g)) g (length_zeros g)

-- a list that is as long as the array
pub padded_whole : (m : ℕ) (l : List ℕ) → length l ≡ m → padded m l ≡ l
unfolding padded
padded_whole m l e = let z : m - length l ≡ 0 = omega arith in rw (z, append-nil)

pub length_padded : (m : ℕ) (l : List ℕ) → length l ≤ m → length (padded m l) ≡ m
unfolding padded
length_padded m l h = length-append l (zeros (m - length l)) ∙ omega (arith, length_zeros (m - length l))

-- an array that is 0 past its first elements
pub record OnlyFirst (numbers : List ℕ) (count : ℕ) : Type 0 where
  pub long : length numbers ≡ most_numbers
  pub rest : drop count numbers ≡ zeros (most_numbers - count)

pub only_zeros : OnlyFirst (zeros most_numbers) 0
only_zeros = record { long = length_zeros most_numbers; rest = drop_zeros 0 most_numbers (omega arith) }

pub first_more : (numbers : List ℕ) (i number : ℕ) → i < most_numbers → OnlyFirst numbers i → OnlyFirst (set numbers i number) (i + 1)
first_more numbers i number h o =
    record {
      long = length-set numbers i number ∙ o.long;
      rest =
          drop-set-lt (i + 1) numbers i number (omega arith)
          ∙ sym (drop-drop 1 i numbers)
          ∙ ap (λ (l : List ℕ). drop 1 l) o.rest
          ∙ drop_zeros 1 (most_numbers - i) (omega arith)
          ∙ (let e : most_numbers - i - 1 ≡ most_numbers - (i + 1) = omega arith in ap zeros e);
    }

pub first_padded : (numbers : List ℕ) (count : ℕ) → count ≤ most_numbers → OnlyFirst numbers count → numbers ≡ padded most_numbers (take count numbers)
unfolding padded
first_padded numbers count h o =
    let e : length (take count numbers) ≡ count = length-take-le count numbers (omega (arith, o.long)) in
    sym (take-append-drop count numbers) ∙ ap (λ (l : List ℕ). take count numbers ++ l) o.rest ∙ rw e

-- the values that numbers leave out are 0, whether they are given as 0 or not at all
pub request_padded : (numbers : List ℕ) → fewest_numbers ≤ length numbers → length numbers ≤ most_numbers
    → request_of (padded most_numbers numbers) ≡ request_of numbers
unfolding request_of padded
request_padded [] few many = absurd (omega (arith, few))
request_padded (field ∷ []) few many = absurd (omega (arith, few))
request_padded (field ∷ channel ∷ values) few many =
    let left : most_numbers - length (field ∷ channel ∷ values) ≡ most_values - length values = omega arith in
    let size : length (values ++ zeros (most_values - length values)) ≡ most_values = length_padded most_values values (omega (arith, many)) in
    rw left (λ i. record { field = field; channel = channel; values = padded_whole most_values (values ++ zeros (most_values - length values)) size i })
