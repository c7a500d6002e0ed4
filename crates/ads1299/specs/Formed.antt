-- What every state has that the code holds, and a record of the logic need not: whole arrays of bytes.
use Rattle.std.specs.Prelude.{ℕ, ◌<◌, List, ◌≡◌, length, get_or}
use Rattle.ads1299_registers.specs.Addresses.{register_count, channel_count}
use Rattle.ads1299_frame.specs.Frame.{frame_length}
use Rattle.ads1299.specs.declared.Converter.{Converter}

-- a list is an array of n bytes
pub record Array (n : ℕ) (l : List ℕ) : Type 0 where
  pub size : length l ≡ n
  pub bytes : (i : ℕ) → get_or l i 0 < 256

-- every array of the state has its length, and its elements are bytes
pub record Formed (s : Converter) : Type 0 where
  pub registers : Array register_count s.registers
  pub owners : Array channel_count s.owners
  pub latest : Array frame_length s.latest
  pub shifting : Array frame_length s.shifting
