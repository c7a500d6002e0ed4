-- A read and a write of the registers (document 01, "Registers").
use Rattle.std.specs.Prelude.{ℕ, cond, List, ltb, get_or, set}
use Rattle.bits.specs.Fields.{masked}
use Rattle.ads1299_registers.specs.Addresses.{register_count}
use Rattle.ads1299_registers.specs.Table.{masks}

-- gives what a read finds at an address: 0 above the last register
unfoldable pub register_at : List ℕ → ℕ → ℕ
register_at registers a = cond (ltb a register_count) (get_or registers a 0) 0

-- gives the registers after a write: through the mask, and dropped above the last register
unfoldable pub written : List ℕ → ℕ → ℕ → List ℕ
written registers a byte =
    cond (ltb a register_count) (set registers a (masked (get_or registers a 0) (get_or masks a 0) byte)) registers
