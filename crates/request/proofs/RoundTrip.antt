-- Reading undoes writing and writing undoes reading, by the laws of a series.
use mathlib.Core.Bool.{true, false}
use mathlib.Core.List.{List, [], ◌∷◌, ◌++◌, append_assoc}
use mathlib.Core.Path.{◌≡◌, refl, sym, ap, ◌∙◌}
use Prim.Native.Nat.{ℕ, suc, ◌+◌, ◌-◌, ◌*◌, ◌/◌, ◌≤◌, ◌<◌}
use native.Mathlib.Omega.{arith}
use borrow.Author.Tests.{leb-true, ltb-true, ltb-false, eq-eqb, ne_eqb, eqb-true, eqb-false}
use lib.Dec.{ltb, leb}
use lib.ListN.{length, take, drop, length-take}
use lib.Pow.{are_bytes}
use lib.Seq.{take-append_seam, take_at, length-take-le}
use Rattle.refusal.specs.Numbers.{none}
use Rattle.refusal.specs.First.{first_of, accepted}
use Rattle.cases.proofs.Cases.{split, and_both}
use Rattle.splice.specs.Splice.{spliced}
use Rattle.leb128.specs.Answers.{Number}
use Rattle.leb128.specs.Numbers.{groups, largest, base}
use Rattle.leb128.specs.Encoding.{encoded, padded}
use Rattle.leb128.specs.Decoding.{decoded}
use Rattle.leb128.specs.Series as series
use Rattle.leb128.specs.SeriesRoundTrip.{SeriesRoundTrip}
use Rattle.leb128.proofs.Groups.{encoded_more, decoded_none, decoded_last, decoded_more, parts}
use Rattle.leb128.proofs.RoundTrip as numbers
use Rattle.leb128.proofs.Series.{both_accepted, series_round_trip}
use Rattle.request.specs.declared.Request.{Request}
use Rattle.request.specs.Requests.{most_values, value_count, numbers_of, request, request_of, request_bytes, writable}
use Rattle.request.specs.Reading.{numbers_in, numbers_read, read_refusal, refused, parsed}
use Rattle.request.specs.Writing.{write_refusal, written}
use Rattle.request.specs.RoundTrip.{Counted, Readable, ReadsAs, WritesBack, RoundTrip}
use Rattle.request.proofs.Padding.{zeros, length_padded}
use Rattle.request.proofs.Reading.{few_values}
use Rattle.request.proofs.Writing.{fits}

law : SeriesRoundTrip groups
law = series_round_trip groups (omega arith)

-- a number that was read takes no more bytes than it is written as
module _ (b : ℕ) (bytes : List ℕ) where
  one_group : b < base → (decoded groups (b ∷ bytes)).used ≤ length (encoded groups (decoded groups (b ∷ bytes)).value)
  one_group h = rw (decoded_last 1 (b ∷ bytes) (omega arith) h) ((numbers.round_trip groups (omega arith)).sized b).some

  two_groups : base ≤ b → (decoded groups (b ∷ bytes)).refusal ≡ none → (decoded groups (b ∷ bytes)).used ≤ length (encoded groups (decoded groups (b ∷ bytes)).value)
  two_groups h e =
      let m = decoded_more 1 (b ∷ bytes) (omega arith) h in
      let p = parts (b - base) (decoded 1 bytes) (rw m at e) in
      let n = b - base + base * (decoded 1 bytes).value in
      let t = ((numbers.round_trip 1 (omega arith)).sized (n / base)).some in
      let u = ((numbers.round_trip 1 (omega arith)).counted bytes).most in
      rw (m, eq-eqb (decoded 1 bytes).refusal none p.0, ne_eqb (decoded 1 bytes).value 0 (λ z. omega arith), encoded_more 1 n (omega arith)) (omega arith)

first_used : (bytes : List ℕ) → (decoded groups bytes).refusal ≡ none → (decoded groups bytes).used ≤ length (encoded groups (decoded groups bytes).value)
first_used [] e = rw (decoded_none 1 [] refl) (omega arith)
first_used (b ∷ bytes) e = split (ltb b base) (λ a. one_group b bytes (ltb-true b base a)) (λ a. two_groups b bytes (ltb-false b base a) e)

-- the numbers that are read are the field, the channel, and as many values as the field has; the bytes are the field's and those of the others
record Numbered (bytes : List ℕ) : Type 0 where
  channel : ℕ
  values : List ℕ
  many : length values ≡ value_count (decoded groups bytes).value
  all : (numbers_read bytes).numbers ≡ (decoded groups bytes).value ∷ channel ∷ values
  first : read_refusal bytes ≡ none → (decoded groups bytes).refusal ≡ none
  most : (numbers_read bytes).used ≤ (decoded groups bytes).used + (1 + value_count (decoded groups bytes).value) * groups

numbered : (bytes : List ℕ) → Numbered bytes
unfolding read_refusal numbers_read numbers_in series.series
numbered bytes =
    let number = decoded groups bytes in
    let count = value_count number.value in
    let after = drop number.used bytes in
    let values = drop (decoded groups after).used after in
    let e : numbers_in bytes ≡ suc (suc count) = omega arith in
    let s : numbers_read bytes ≡ series.series groups (suc (suc count)) bytes = ap (λ (k : ℕ). series.series groups k bytes) e in
    record {
      channel = (decoded groups after).value;
      values = (series.series groups count values).numbers;
      many = law.many count values;
      all = rw s;
      first = λ z. (both_accepted number (series.series groups (suc count) after) (ap (λ (found : series.Series). first_of found.refusals) (sym s) ∙ z)).0;
      most = rw s (omega (arith, (law.counted (suc count) after).most));
    }

field_is : (bytes : List ℕ) → (request_of (numbers_read bytes).numbers).field ≡ (decoded groups bytes).value
unfolding request_of
field_is bytes = rw (numbered bytes).all

-- the numbers of the request that they are
numbers_back : (bytes : List ℕ) → numbers_of (request_of (numbers_read bytes).numbers) ≡ (numbers_read bytes).numbers
unfolding numbers_of request_of padded
numbers_back bytes = let n = numbered bytes in rw (n.all, take_at n.values (zeros (most_values - length n.values)) (value_count (decoded groups bytes).value) n.many)

read_whole : (bytes : List ℕ) → read_refusal bytes ≡ none → parsed bytes ≡ record { refusal = none; request = request_of (numbers_read bytes).numbers; used = (numbers_read bytes).used }
unfolding parsed
read_whole bytes e = rw (eq-eqb (read_refusal bytes) none e)

refused_whole : (bytes : List ℕ) → accepted (read_refusal bytes) ≡ false → parsed bytes ≡ refused (read_refusal bytes)
unfolding parsed
refused_whole bytes a = rw a

counted_read : (bytes : List ℕ) → read_refusal bytes ≡ none → Counted bytes (parsed bytes)
unfolding read_refusal numbers_read numbers_in
counted_read bytes e =
    let n = numbered bytes in
    let c = law.counted (numbers_in bytes) bytes in
    rw (read_whole bytes e, field_is bytes)
    (record {
      least = λ z. c.least e;
      most = omega (arith, n.most, first_used bytes (n.first e));
      within = c.within;
      nothing = λ z. absurd (z refl);
    })

counted : (bytes : List ℕ) → Counted bytes (parsed bytes)
counted bytes =
    split (accepted (read_refusal bytes))
    (λ a. counted_read bytes (eqb-true (read_refusal bytes) none a))
    (λ a.
    rw (refused_whole bytes a)
    (record { least = λ z. absurd (eqb-false (read_refusal bytes) none a z); most = omega arith; within = omega arith; nothing = λ z. refl }))

nothing_readable : Readable (request 0 0 [])
unfolding request_of numbers_of padded
nothing_readable = refl

readable : (bytes : List ℕ) → Readable (parsed bytes).request
readable bytes =
    split (accepted (read_refusal bytes))
    (λ a. rw (read_whole bytes (eqb-true (read_refusal bytes) none a), numbers_back bytes))
    (λ a. rw (refused_whole bytes a) nothing_readable)

-- the request's own bytes are read as it
module _ (r : Request) (rest : List ℕ) (nine : length r.values ≡ most_values) (small : writable r ≡ true) where
  first_is : (decoded groups (request_bytes r ++ rest)).value ≡ r.field
  unfolding request_bytes numbers_of series.series_bytes writable series.writable
  first_is =
      let b = and_both (leb r.field (largest groups)) _ small in
      rw append_assoc (ap (λ (n : Number). n.value) ((numbers.round_trip groups (omega arith)).reads_back r.field _ (leb-true _ _ b.0)))

  count_is : numbers_in (request_bytes r ++ rest) ≡ length (numbers_of r)
  unfolding numbers_in numbers_of
  count_is =
      let f = few_values r.field in
      rw first_is (omega (arith, length-take-le (value_count r.field) r.values (omega arith)))

  read_bytes : parsed (request_bytes r ++ rest) ≡ record { refusal = none; request = request_of (numbers_of r); used = length (request_bytes r) }
  unfolding read_refusal numbers_read request_bytes writable
  read_bytes =
      let bytes = request_bytes r ++ rest in
      let b = law.reads_back (numbers_of r) rest small in
      let s : numbers_read bytes ≡ series.series groups (length (numbers_of r)) bytes = ap (λ (k : ℕ). series.series groups k bytes) count_is in
      read_whole bytes (ap (λ (found : series.Series). first_of found.refusals) s ∙ b.accepted) ∙ rw (s, b.same, b.count)

-- a writer's answer that is no refusal: nothing too large, and room enough
can_write : (r : Request) (buffer : List ℕ) → (written r buffer).refusal ≡ none → (writable r ≡ true) × (length (request_bytes r) ≤ length buffer)
unfolding written write_refusal
can_write r buffer e =
    split (writable r)
    (λ w. split (ltb (length buffer) (length (request_bytes r))) (λ t. let z : ◌≡◌ {A = ℕ} 9 0 = rw (w, t) at e in absurd (omega arith)) (λ t. (w, ltb-false _ _ t)))
    (λ w. let z : ◌≡◌ {A = ℕ} 7 0 = rw w at e in absurd (omega arith))

reads_numbers_lem : (r : Request) (buffer rest : List ℕ) → length r.values ≡ most_values → (written r buffer).refusal ≡ none → ReadsAs r (request_of (numbers_of r)) buffer rest
reads_numbers_lem r buffer rest nine e =
    let w = can_write r buffer e in
    let a = fits r buffer w.0 w.1 in
    rw (← a.0, ← a.1, take-append_seam) (read_bytes r rest nine w.0)

-- a request that a reader can give has nine values
nine_values : (r : Request) → Readable r → length r.values ≡ most_values
unfolding request_of numbers_of
nine_values r can =
    let f = few_values r.field in
    let used = take (value_count r.field) r.values in
    ap (λ (q : Request). length q.values) (sym can) ∙ length_padded most_values used (omega (arith, length-take (value_count r.field) r.values))

reads_back_lem : (r : Request) (buffer rest : List ℕ) → Readable r → (written r buffer).refusal ≡ none → ReadsAs r r buffer rest
reads_back_lem r buffer rest can e =
    reads_numbers_lem r buffer rest (nine_values r can) e ∙ (λ i. record { refusal = none; request = can i; used = (written r buffer).used })

-- a request that was read may be written, as the bytes it came from
writable_read : (bytes : List ℕ) → are_bytes bytes ≡ true → read_refusal bytes ≡ none → (writable (parsed bytes).request ≡ true) × (request_bytes (parsed bytes).request ≡ take (parsed bytes).used bytes)
unfolding request_bytes writable read_refusal numbers_read
writable_read bytes ok e =
    let w = law.writes_back (numbers_in bytes) bytes ok e in
    rw (read_whole bytes e, numbers_back bytes) (w.small, w.same)

answer_none : (bytes : List ℕ) → (parsed bytes).refusal ≡ none → read_refusal bytes ≡ none
answer_none bytes e =
    split (accepted (read_refusal bytes))
    (λ a. eqb-true (read_refusal bytes) none a)
    (λ a. rw (refused_whole bytes a) at e)

writes_back_lem : (bytes buffer : List ℕ) → are_bytes bytes ≡ true → (parsed bytes).refusal ≡ none → (parsed bytes).used ≤ length buffer → WritesBack bytes buffer (parsed bytes)
writes_back_lem bytes buffer ok e room =
    let b = writable_read bytes ok (answer_none bytes e) in
    let n : length (request_bytes (parsed bytes).request) ≡ (parsed bytes).used = rw b.1 (length-take-le _ _ (counted bytes).within) in
    let a = fits (parsed bytes).request buffer b.0 (omega arith) in
    record {
      answer = sym a.0 ∙ (λ i. record { refusal = none; used = n i });
      same = sym a.1 ∙ ap (spliced buffer 0) b.1;
    }

pub round_trip : RoundTrip
round_trip = record { counted = counted; readable = readable; reads_back = reads_back_lem; reads_numbers = reads_numbers_lem; writes_back = writes_back_lem }
