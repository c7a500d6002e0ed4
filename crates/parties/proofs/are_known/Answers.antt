use Rattle.std.proofs.Common.{rules, tests}
use Rattle.std.proofs.lemmas.Iterator.{YieldsList-from_slice}
use Rattle.std.proofs.lemmas.Iterator.Search.{all_from_yields_List}
use mathlib.Core.Path.{◌∙◌}
use lib.Dec.{leb}
use Rattle.parties.specs.Parties.{largest_party}
use Rattle.parties.proofs.Owners.{known_all}
use Rattle.parties.proofs.are_known.Goals as goal

pub returns : goal.returns
returns c =
    all_from_yields_List (λ o. leb o largest_party) _ _ _ c.all.ensures.ran (YieldsList-from_slice c.args.owners.now cc) (λ x b q k. search (rules, tests))
    ∙ known_all c.args.owners.now
