use Rattle.std.proofs.Common.{rules}
use native.Mathlib.Omega.{arith}
use Prim.Native.Nat.{suc, ◌+◌, ◌-◌}
use mathlib.Core.Path.{◌≡◌, ap}
use lib.ListN.{length, take, drop}
use Rattle.planner.specs.Runs.{registers_from}
use Rattle.planner.proofs.Runs.{registers_length, part_registers}
use Rattle.planner.proofs.Buffer.{both}
use Rattle.planner.proofs.Writer.put_run.Goals as goal

pub returns : goal.returns
returns c =
    let a = c.args in
    let n : length a.registers ≡ 24 = search rules in
    let data_is : take (a.first + a.further + 1 - a.first) (drop a.first a.registers) ≡ registers_from a.registers a.first (suc a.further) =
    part_registers a.registers a.first a.further (omega (arith, c.requires.0)) in
    rw data_is at (both c.put.ensures c.put-2.ensures (omega (arith, ap length data_is, registers_length a.registers a.first (suc a.further), c.requires.1)))
