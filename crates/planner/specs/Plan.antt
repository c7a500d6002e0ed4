-- A plan: the bytes that make a request's settings and leave the converter in the mode it was in (document 01, "Plans").
use Rattle.std.specs.Prelude.{ℕ, ◌+◌, Bool, true, false, List, [], ◌∷◌, ◌++◌, length}
use Rattle.request.specs.declared.Request.{Request}
use Rattle.ads1299_commands.specs.Opcodes.{WAKEUP, STANDBY, RDATAC, SDATAC}
use Rattle.ads1299.specs.declared.Converter.{Converter}
use Rattle.ads1299_settings.specs.Settings.{with_settings}
use Rattle.planner.specs.Settings.{settings}
use Rattle.planner.specs.Runs.{runs, writing_all, runs_length}

-- gives the byte where it is wanted, or nothing
abbrev pub only : Bool → ℕ → List ℕ
only true byte = byte ∷ []
only false byte = []

-- gives the bytes that end standby and continuous mode, as far as the converter is in them
abbrev pub entering : Bool → Bool → List ℕ
entering standby continuous = only standby WAKEUP ++ only continuous SDATAC

-- gives the bytes that go back to these modes: continuous mode first, since in standby RDATAC would be ignored
abbrev pub leaving : Bool → Bool → List ℕ
leaving standby continuous = only continuous RDATAC ++ only standby STANDBY

-- gives bytes as a converter in these modes is to be sent them, and left as it was
abbrev pub around : Bool → Bool → List ℕ → List ℕ
around standby continuous bytes = entering standby continuous ++ bytes ++ leaving standby continuous

-- gives the plan that writes a request's runs of these registers
unfoldable pub plan_writing : Converter → Request → List ℕ → List ℕ
plan_writing s r registers = around s.standby s.continuous (writing_all registers (runs r))

-- gives the registers with a request's settings made
unfoldable pub registers_after : List ℕ → Request → List ℕ
registers_after registers r = with_settings registers r.channel (settings r)

-- gives the plan: it writes the registers as they stand with the settings made
unfoldable pub plan_of : Converter → Request → List ℕ
plan_of s r = plan_writing s r (registers_after s.registers r)

-- gives the plan's length, which depends on the modes and the runs alone: 3, 5 or 7, and 10, 12 or 14 for a whole channel
abbrev pub plan_length : Converter → Request → ℕ
plan_length s r = length (entering s.standby s.continuous) + runs_length (runs r) + length (leaving s.standby s.continuous)

-- the most bytes of a plan
abbrev pub longest_plan : ℕ
longest_plan = 14
