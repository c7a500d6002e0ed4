-- The bytes of a request's runs: of a whole channel's two, and of a field's one.
use Prim.Native.Nat.{ℕ, ◌+◌, ◌<◌}
use mathlib.Core.Path.{◌≡◌, ap}
use mathlib.Core.Bool.{true, false}
use mathlib.Core.List.{List, [], ◌∷◌, ◌++◌, append-nil}
use native.Mathlib.Omega.{arith}
use lib.Dec.{eqb}
use Rattle.ads1299_registers.specs.Addresses.{register_count}
use Rattle.ads1299_fields.specs.Names.{whole_channel}
use Rattle.ads1299_fields.specs.Places.{place}
use Rattle.ads1299_fields.proofs.Apart.{place_in_list}
use Rattle.request.specs.declared.Request.{Request}
use Rattle.planner.specs.Runs.{Run, run, channel_register, channel_bits, runs, writing, writing_all}

-- one run and two, as lists of runs
one_run : (registers : List ℕ) (x : Run) → writing_all registers (x ∷ []) ≡ writing registers x
unfolding writing_all
one_run registers x = append-nil (writing registers x)

two_runs : (registers : List ℕ) (x y : Run) → writing_all registers (x ∷ y ∷ []) ≡ writing registers x ++ writing registers y
unfolding writing_all
two_runs registers x y = ap (λ (l : List ℕ). writing registers x ++ l) (append-nil (writing registers y))

module _ (registers : List ℕ) (r : Request) where
  pub whole_bytes : eqb r.field whole_channel ≡ true
      → writing_all registers (runs r) ≡ writing registers (run (channel_register r.channel) 0) ++ writing registers channel_bits
  whole_bytes w = rw w (two_runs registers (run (channel_register r.channel) 0) channel_bits)

  pub field_bytes : eqb r.field whole_channel ≡ false → writing_all registers (runs r) ≡ writing registers (run (place r.field r.channel).register 0)
  field_bytes w = rw w (one_run registers (run (place r.field r.channel).register 0))

-- a register that a field lies in, as a run of one
pub alone : (f n : ℕ) → (place f n).register + 0 < register_count
alone f n = omega (arith, place_in_list f n)
