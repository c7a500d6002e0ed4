use native.Mathlib.Omega.{arith}
use mathlib.Core.List.{[], ◌∷◌, ◌++◌}
use lib.ListN.{length-append}
use Rattle.console.specs.Text.{newline, decimal, hexes}
use Rattle.console.specs.Line.{line}
use Rattle.console.proofs.Writing.{both}
use Rattle.console.proofs.Writer.put_line.Goals as goal

pub returns : goal.returns
unfolding line
returns c =
    let start = decimal c.args.number ++ hexes c.args.plan.now in
    let written = both c.put_decimal.ensures _ (omega (arith, length-append start (newline ∷ []))) c.put_hexes.ensures in
    both written _ c.requires c.put.ensures
