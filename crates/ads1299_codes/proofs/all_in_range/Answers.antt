use Rattle.std.proofs.Common.{rules, refl, ap, ◌∙◌}
use borrow.Author.Tests.{tests}
use Rattle.std.proofs.lemmas.Iterator.{YieldsList-from_slice}
use Rattle.std.proofs.lemmas.Iterator.Search.{all_from_yields_List}
use Rattle.std.specs.List.{list_all}
use mathlib.Core.Bool.{◌&&◌}
use mathlib.Core.List.{List, [], ◌∷◌}
use mathlib.Core.Path.{◌≡◌}
use lib.IntN.{ℤ}
use Rattle.ads1299_codes.specs.Codes.{in_range, all_in_range}
use Rattle.ads1299_codes.proofs.all_in_range.Goals as goal

-- the definition, by the iterator's own word
each : (zs : List ℤ) → list_all in_range zs ≡ all_in_range zs
unfolding all_in_range
each [] = refl
each (z ∷ zs) = ap (λ b. in_range z && b) (each zs)

pub returns : goal.returns
returns c = all_from_yields_List in_range _ _ _ c.all.ensures.ran (YieldsList-from_slice c.args.codes.now cc) (λ x b q k. search (rules, tests)) ∙ each _
