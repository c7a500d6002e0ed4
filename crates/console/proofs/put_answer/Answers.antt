use mathlib.Core.Path.{sym}
use lib.Seq.{length-take-le}
use Rattle.console.proofs.Turns.{plan_within}
use Rattle.console.proofs.put_answer.Goals as goal

pub slice_bounds-buffer-end : goal.slice_bounds-buffer-end
slice_bounds-buffer-end c = let a = c.args in
    let p = c.in-Ok.ensures.planned in
    plan_within a.converter a.party a.request _ _ p.0 p.1

pub slice_bounds-put_line-end : goal.slice_bounds-put_line-end
slice_bounds-put_line-end c = let a = c.args in
    let p = c.in-Ok.ensures.planned in
    sym (length-take-le _ _ (plan_within a.converter a.party a.request _ _ p.0 p.1))
