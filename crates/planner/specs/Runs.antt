-- The registers that a request writes, as runs: each run is one command.
use Rattle.std.specs.Prelude.{ℕ, zero, suc, ◌+◌, ◌-◌, Bool, cond, ◌&&◌, List, [], ◌∷◌, ◌++◌, eqb, leb, ltb, get_or}
use Rattle.cases.specs.Every.{any_of}
use Rattle.ads1299_registers.specs.Addresses.{CH1SET, BIAS_SENSP, LOFF_FLIP}
use Rattle.ads1299_commands.specs.Opcodes.{WREG}
use Rattle.ads1299_fields.specs.Names.{whole_channel}
use Rattle.ads1299_fields.specs.Places.{place}
use Rattle.request.specs.declared.Request.{Request}

-- a run of registers: the first, and how many follow it
pub record Run : Type 0 where
  pub first : ℕ
  pub further : ℕ

-- gives the run from a first register on
abbrev pub run : ℕ → ℕ → Run
run first further = record { first = first; further = further }

-- gives the address of CHnSET
abbrev pub channel_register : ℕ → ℕ
channel_register n = CH1SET + (n - 1)

-- gives the run of 0D to 11, the registers with a bit for each channel
abbrev pub channel_bits : Run
channel_bits = run BIAS_SENSP (LOFF_FLIP - BIAS_SENSP)

-- gives the runs of a whole channel: CHnSET, and then 0D to 11 in one
abbrev pub whole_runs : ℕ → List Run
whole_runs n = run (channel_register n) 0 ∷ channel_bits ∷ []

-- gives the runs of a request: a whole channel's, or the field's register
abbrev pub runs : Request → List Run
runs r = cond (eqb r.field whole_channel) (whole_runs r.channel) (run (place r.field r.channel).register 0 ∷ [])

-- gives so many registers, from an address on
unfoldable pub registers_from : List ℕ → ℕ → ℕ → List ℕ
registers_from registers first zero = []
registers_from registers first (suc more) = get_or registers first 0 ∷ registers_from registers (first + 1) more

-- gives the bytes that write a run: the command with the first address, the number of registers minus one, the registers
abbrev pub writing : List ℕ → Run → List ℕ
writing registers x = (WREG + x.first) ∷ x.further ∷ registers_from registers x.first (suc x.further)

-- gives the bytes that write every run
unfoldable pub writing_all : List ℕ → List Run → List ℕ
writing_all registers [] = []
writing_all registers (x ∷ rest) = writing registers x ++ writing_all registers rest

-- counts the bytes that write every run: two and one for each register
unfoldable pub runs_length : List Run → ℕ
runs_length [] = 0
runs_length (x ∷ rest) = 3 + x.further + runs_length rest

-- the run has register i
abbrev pub in_run : ℕ → Run → Bool
in_run i x = leb x.first i && ltb i (x.first + suc x.further)

-- a run has register i
abbrev pub in_runs : List Run → ℕ → Bool
in_runs all i = any_of (in_run i) all
