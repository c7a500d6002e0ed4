-- What the code's arrays have, read out of what a bench owns: four converters, each of whole arrays of bytes.
use Prim.Native.Nat.{ℕ, zero, suc, ◌<◌}
use mathlib.Core.List.{List, [], ◌∷◌}
use mathlib.Core.Path.{◌≡◌}
use native.Mathlib.Omega.{arith}
use borrow.Author.Rules.{rules}
use lib.ListN.{length, get_or}
use mir.Syntax.{w8}
use mir.Val.{Val, Fits}
use denote.Shadow.{shadow}
use denote.Array.{each}
use Rattle.ads1299.specs.contracts.Converter as S
use Rattle.ads1299.specs.declared.Converter.{Converter}
use Rattle.ads1299.specs.Formed.{Formed}
use Rattle.lines.specs.Lines.{converter_count}
use Rattle.bench.specs.declared.Bench.{Bench}
use Rattle.bench.specs.Bench.{blank}
use Rattle.bench.specs.Formed.{FormedBench}

byte : (n : ℕ) → Fits w8 n → n < 256
byte n f = f.fits

formed_of : (s : Converter) (u : Val) → shadow ((S.the_row).own_val s (u ∷ [])) → Formed s
formed_of s u p =
    record {
      registers = record { size = search rules; bytes = λ i. byte (get_or s.registers i 0) (search rules) };
      owners = record { size = search rules; bytes = λ i. byte (get_or s.owners i 0) (search rules) };
      latest = record { size = search rules; bytes = λ i. byte (get_or s.latest i 0) (search rules) };
      shifting = record { size = search rules; bytes = λ i. byte (get_or s.shifting i 0) (search rules) };
    }

pub each_formed : (l : List Converter) (us : List Val) → shadow (each (S.the_row).Denot (S.the_row).own_val l us)
    → (k : ℕ) → k < length l → Formed (get_or l k blank)
each_formed [] us p k h = absurd (omega (arith, h))
each_formed (s ∷ l) [] p k h = absurd p
each_formed (s ∷ l) (u ∷ us) p zero h = formed_of s u p.0
each_formed (s ∷ l) (u ∷ us) p (suc k) h = each_formed l us p.1 k (omega (arith, h))

pub bench_formed : (b : Bench) (us : List Val) → length b.converters ≡ converter_count
    → shadow (each (S.the_row).Denot (S.the_row).own_val b.converters us) → FormedBench b
bench_formed b us size owned = record { size = size; each = λ k h. each_formed b.converters us owned k (rw size h) }
