use Rattle.bench.specs.Bench.{at}
use Rattle.bench.proofs.Accepts.{no_rise_refused}
use Rattle.bench.proofs.Converters.{each_valid}
use Rattle.bench.proofs.Line.{clear}
use mathlib.Core.Path.{sym}
use Rattle.bench.proofs.Bench.deselect.Goals as goal

-- the converter's own refusal cannot come: the bench was judged whole
pub returns-in_err-self : goal.returns-in_err-self
returns-in_err-self c = let k = c.in_ok-k.k in
    let v = each_valid c.args.self (clear _ _ (sym c.in_ok-k.ensures.refusal)).state k c.in_ok-k.ensures.place.1 in
    absurd (no_rise_refused (at c.args.self k) v c.in_err-self.field-0.0 c.in_err-self.ensures)
