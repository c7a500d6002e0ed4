-- A plan's length.
use mathlib.Core.Bool.{Bool, true, false}
use mathlib.Core.Path.{◌≡◌, ◌∙◌}
use mathlib.Core.List.{List, ◌++◌}
use native.Mathlib.Omega.{arith}
use Prim.Native.Nat.{ℕ, ◌+◌, ◌≤◌}
use lib.Dec.{eqb}
use lib.ListN.{length, length-append}
use Rattle.cases.proofs.Cases.{split}
use Rattle.ads1299_fields.specs.Names.{whole_channel}
use Rattle.request.specs.declared.Request.{Request}
use Rattle.ads1299_commands.specs.Opcodes.{WAKEUP, STANDBY, RDATAC, SDATAC}
use Rattle.ads1299.specs.declared.Converter.{Converter}
use Rattle.planner.specs.Runs.{runs, writing_all, runs_length}
use Rattle.planner.specs.Plan.{only, entering, leaving, plan_writing, plan_of, plan_length}
use Rattle.planner.specs.Lengths.{PlansCounted, PlansFit}
use Rattle.planner.proofs.Runs.{all_length}

-- any registers' plan has that length
pub writing_counted : (s : Converter) (r : Request) (registers : List ℕ) → length (plan_writing s r registers) ≡ plan_length s r
unfolding plan_writing
writing_counted s r registers =
    let before = entering s.standby s.continuous in
    let after = leaving s.standby s.continuous in
    let body = writing_all registers (runs r) in
    length-append (before ++ body) after ∙ omega (arith, length-append before body, all_length registers (runs r))

-- the length by the pieces that the code puts one after the other
pub pieces : (s : Converter) (r : Request) (registers : List ℕ)
    → plan_length s r
    ≡ length (only s.standby WAKEUP) + length (only s.continuous SDATAC) + length (writing_all registers (runs r))
    + (length (only s.continuous RDATAC) + length (only s.standby STANDBY))
pieces s r registers =
    omega (
      arith,
      length-append (only s.standby WAKEUP) (only s.continuous SDATAC),
      length-append (only s.continuous RDATAC) (only s.standby STANDBY),
      all_length registers (runs r),
    )

pub plan_length_lem : PlansCounted
unfolding plan_of
plan_length_lem s r = writing_counted s r _

pub few_modes : (standby continuous : Bool) → length (entering standby continuous) + length (leaving standby continuous) ≤ 4
few_modes true true = omega arith
few_modes true false = omega arith
few_modes false true = omega arith
few_modes false false = omega arith

pub few_runs : (r : Request) → (3 ≤ runs_length (runs r)) × (runs_length (runs r) ≤ 10)
unfolding runs_length
few_runs r = split (eqb r.field whole_channel) (λ w. rw w (omega arith, omega arith)) (λ w. rw w (omega arith, omega arith))

pub plans_fit : PlansFit
plans_fit s r = omega (arith, few_modes s.standby s.continuous, (few_runs r).1)
