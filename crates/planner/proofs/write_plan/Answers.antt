use Rattle.std.proofs.Common.{rules}
use native.Mathlib.Omega.{arith}
use Prim.Native.Nat.{ℕ, ◌+◌, ◌≤◌}
use mathlib.Core.List.{List, ◌++◌, append_assoc}
use mathlib.Core.Path.{◌≡◌}
use lib.ListN.{length, length-append}
use Rattle.request.specs.declared.Request.{Request}
use Rattle.ads1299_commands.specs.Opcodes.{WAKEUP, STANDBY, RDATAC, SDATAC}
use Rattle.ads1299.specs.declared.Converter.{Converter}
use Rattle.planner.specs.declared.Writer.{Writer}
use Rattle.planner.specs.Wrote.{Wrote}
use Rattle.planner.specs.Runs.{runs, writing_all}
use Rattle.planner.specs.Plan.{only, plan_writing, plan_length}
use Rattle.planner.proofs.Length.{pieces}
use Rattle.planner.proofs.Buffer.{room_left, both}
use Rattle.planner.proofs.write_plan.Goals as goal

module _ (s : Converter) (r : Request) where
  -- the plan's pieces
  abbrev awake : List ℕ
  awake = only s.standby WAKEUP

  abbrev stopped : List ℕ
  stopped = only s.continuous SDATAC

  abbrev body : List ℕ
  body = writing_all s.registers (runs r)

  abbrev started : List ℕ
  started = only s.continuous RDATAC

  abbrev asleep : List ℕ
  asleep = only s.standby STANDBY

  -- how far the pieces reach
  sizes : (plan_length s r ≡ length awake + length stopped + length body + (length started + length asleep))
      × ((length (awake ++ stopped) ≡ length awake + length stopped)
      × ((length (awake ++ stopped ++ body) ≡ length awake + length stopped + length body)
      × (length (awake ++ stopped ++ body ++ started) ≡ length awake + length stopped + length body + length started)))
  sizes =
      let two = length-append awake stopped in
      let three = length-append (awake ++ stopped) body in
      let four = length-append (awake ++ stopped ++ body) started in
      (pieces s r s.registers, (two, (omega arith, omega arith)))

  -- they are written one after the other, and leave room for those to come
  module _ {w₀ w₁ w₂ w₃ : Writer} (one : Wrote w₀ w₁ awake) (two : Wrote w₁ w₂ stopped) (three : Wrote w₂ w₃ body)
      (room : w₀.place + plan_length s r ≤ length w₀.buffer.now) where
    to_body : Wrote w₀ w₃ (awake ++ stopped ++ body)
    to_body = both (both one two (omega (arith, sizes))) three (omega (arith, sizes))

    started_fits : w₃.place + length started ≤ length w₃.buffer.now
    started_fits = room_left to_body (length started) (omega (arith, sizes))

    module _ {w₄ : Writer} (four : Wrote w₃ w₄ started) where
      to_started : Wrote w₀ w₄ (awake ++ stopped ++ body ++ started)
      to_started = both to_body four (omega (arith, sizes))

      asleep_fits : w₄.place + length asleep ≤ length w₄.buffer.now
      asleep_fits = room_left to_started (length asleep) (omega (arith, sizes))

      all_written : {w₅ : Writer} → Wrote w₄ w₅ asleep → Wrote w₀ w₅ (plan_writing s r s.registers)
      unfolding plan_writing
      all_written {w₅} five = rw (append_assoc (awake ++ stopped ++ body) started asleep) at (both to_started five (omega (arith, sizes)))

pub put_only-requires-3 : goal.put_only-requires-3
put_only-requires-3 c = started_fits c.args.c c.args.request c.put_only.ensures c.put_only-2.ensures c.put_runs.ensures (omega (arith, c.requires.1))

pub put_only-requires-4 : goal.put_only-requires-4
put_only-requires-4 c = asleep_fits c.args.c c.args.request c.put_only.ensures c.put_only-2.ensures c.put_runs.ensures (omega (arith, c.requires.1)) c.put_only-3.ensures

pub returns : goal.returns
returns c = let w = all_written c.args.c c.args.request c.put_only.ensures c.put_only-2.ensures c.put_runs.ensures (omega (arith, c.requires.1)) c.put_only-3.ensures c.put_only-4.ensures in
    let e = w.buffer in
    let k = w.same in
    search (rules, e, k)
