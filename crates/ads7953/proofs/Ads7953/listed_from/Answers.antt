use Rattle.std.proofs.Common.{rules, true, false, ◌≡◌}
use Rattle.std.proofs.lemmas.Iterator.{first_from_Range}
use Rattle.ads7953.specs.Scan.{listed}
use Rattle.ads7953.proofs.Listed.{first_found}
use Rattle.ads7953.proofs.Ads7953.listed_from.Goals as goal

pub returns : goal.returns
returns c =
    let a = c.args in
    first_found a.self.list a.from _
    (first_from_Range _ _ _ _ (λ k. listed a.self.list k ≡ true) (λ k. listed a.self.list k ≡ false) c.find.ensures.ran (λ x q k. search rules) (λ x q k. search rules))
