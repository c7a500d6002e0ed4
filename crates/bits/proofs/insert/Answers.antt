-- The sum of the three parts is a byte, so each part and each sum before it fits.
use mathlib.Core.Path.{sym, ◌∙◌}
use native.Mathlib.Omega.{arith}
use Rattle.bits.proofs.Fields.{Bounds, bounds}
use Rattle.bits.proofs.insert.Goals as goal

in_bounds : (c : goal.After-power-high) → Bounds c.args.byte c.args.value c.power-low.result c.power-high.result
in_bounds c = let a = c.args in
    bounds a.byte a.bit a.width a.value _ _ (omega arith) (sym c.fits.ensures ∙ c.if-fits.true) c.power-low.ensures c.power-high.ensures

pub overflow_mul-result-then-fits : goal.overflow_mul-result-then-fits
overflow_mul-result-then-fits c = let b = in_bounds c in omega arith

pub overflow_add-result : goal.overflow_add-result
overflow_add-result c = let b = in_bounds c in omega arith

-- answered so that an edit that moves the bits above the field down is refused by the result alone
pub overflow_mul-result : goal.overflow_mul-result
overflow_mul-result c = let b = in_bounds c in omega arith
