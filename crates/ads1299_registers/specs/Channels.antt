-- The channels by number.
use Rattle.std.specs.Prelude.{ℕ, Bool, ◌&&◌, leb}
use Rattle.ads1299_registers.specs.Addresses.{channel_count}

-- tells whether the converter has a channel of this number, 1 to 8
abbrev pub is_channel : ℕ → Bool
is_channel channel = leb 1 channel && leb channel channel_count
