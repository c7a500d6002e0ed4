-- What the converter shifts out.
use Rattle.std.specs.Prelude.{ℕ, Bool, List, get_or, None, Some}
use Rattle.bits.specs.Fields.{bit}
use Rattle.ads1299_registers.specs.Addresses.{CONFIG1}
use Rattle.ads1299_serial.specs.Output.{advanced}
use Rattle.ads1299.specs.declared.Converter.{Converter}
use Rattle.ads1299.specs.State.{with_output, with_shifting}

-- read-back is on: bit 6 of CONFIG1
abbrev pub read_back : List ℕ → Bool
read_back registers = bit (get_or registers CONFIG1 0) 6

-- gives the state with nothing to shift out; what the frame holds then is no part of the output
unfoldable pub emptied : Converter → Converter
emptied s = with_output s None

-- gives the state with the latest frame to shift out, from its first byte
unfoldable pub loaded : Converter → Converter
loaded s = with_shifting (with_output s (Some 0)) s.latest

-- gives the state after an ignored byte: the output runs on
unfoldable pub ignored : Converter → Converter
ignored s = with_output s (advanced s.output (read_back s.registers))
