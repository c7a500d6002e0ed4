-- The loop keeps that the settings that are left lead to the same registers.
use Prim.Native.Nat.{◌-◌}
use mathlib.Core.Path.{◌≡◌}
use Rattle.ads1299_settings.specs.Settings.{with_settings}
use Rattle.planner.specs.Settings.{settings_from}
use Rattle.planner.specs.Plan.{registers_after}
use Rattle.planner.proofs.fields.set_all.Given as goal

abbrev pub invariant-loop-i : goal.invariant-loop-i
invariant-loop-i l =
    registers_after l.initial.after l.fn.request ≡ with_settings l.after l.fn.request.channel (settings_from l.fn.request l.i (l.count - l.i))
