-- Numbers that a field is named with on the bench, and the converters' own channels.
use Prim.Native.Nat.{ℕ, ◌≤◌, ◌<◌}
use mathlib.Core.Path.{◌≡◌, sym, ◌∙◌, ap}
use mathlib.Core.Bool.{Bool, true, ◌&&◌}
use native.Mathlib.Omega.{arith}
use borrow.Author.Tests.{eqb-true, eqb-false, eq-eqb, ne_eqb, leb-true, leb-false, lt-ltb}
use lib.Dec.{eqb, leb}
use Rattle.cases.proofs.Cases.{split}
use Rattle.ads1299_registers.specs.Addresses.{channel_count}
use Rattle.ads1299_fields.specs.Names.{is_field, named}
use Rattle.ads1299_fields.proofs.Names.{named_range}
use Rattle.lines.specs.Lines.{converter_count, last_number, converter_of, local_channel, bench_channel}
use Rattle.lines.specs.Ranges.{names}
use Rattle.lines.proofs.Numbering.{below_four, channel_back, number_back, beyond}
use Rattle.lines.proofs.Ranges.{converters}
use Rattle.bench_planner.specs.Fields.{takes_number, bench_named}
use Rattle.bench_planner.proofs.Worded.{takes_local, named_so}

pub low : (f m : ℕ) → named f m ≡ true → m ≤ channel_count
low f m e = let r = (named_range f m e).1 in omega arith

pub named_local : (f n : ℕ) → named f (local_channel n) ≡ bench_named f n
unfolding named bench_named
named_local f n = ap (λ (b : Bool). is_field f && b) (takes_local f n)

-- a number whose own channel some converter has is found again from there
pub back : (n : ℕ) → local_channel n ≤ channel_count → bench_channel (converter_of n) (local_channel n) ≡ n
back n h =
    split (leb n last_number)
    (λ q. number_back n (leb-true n last_number q))
    (λ q. absurd (omega (arith, h, beyond n (leb-false n last_number q))))

-- a number is that of a channel of its converter exactly where it becomes that channel
pub same_channel : (n m : ℕ) → m ≤ channel_count → eqb n (bench_channel (converter_of n) m) ≡ eqb (local_channel n) m
same_channel n m h =
    split (eqb (local_channel n) m)
    (λ q. let e = eqb-true (local_channel n) m q in eq-eqb n _ (sym (back n (rw e h)) ∙ ap (bench_channel (converter_of n)) e) ∙ sym q)
    (λ q.
    ne_eqb n _ (λ z. eqb-false (local_channel n) m q (ap local_channel z ∙ channel_back (converter_of n) m (below_four n) h)) ∙ sym q)

-- a number that a field takes names the converter that the mapping says
pub names_mapped : (k f n : ℕ) → k < converter_count → takes_number f n ≡ true → names k n ≡ eqb (converter_of n) k
names_mapped k f n lt e = converters k n (lt-ltb k converter_count lt) (named_so f n e)
