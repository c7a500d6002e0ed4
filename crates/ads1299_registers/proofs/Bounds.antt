-- From the test of a channel to its bounds.
use Prim.Native.Nat.{ℕ, ◌≤◌}
use mathlib.Core.Path.{◌≡◌}
use mathlib.Core.Bool.{true}
use borrow.Author.Tests.{leb-true}
use lib.Dec.{leb}
use Rattle.cases.proofs.Cases.{and_both}
use Rattle.ads1299_registers.specs.Addresses.{channel_count}
use Rattle.ads1299_registers.specs.Channels.{is_channel}

pub record Bounds (channel : ℕ) : Type 0 where
  pub low : 1 ≤ channel
  pub high : channel ≤ channel_count

pub bounds : (channel : ℕ) → is_channel channel ≡ true → Bounds channel
bounds channel e =
    let b = and_both (leb 1 channel) (leb channel channel_count) e in
    record { low = leb-true _ _ b.0; high = leb-true _ _ b.1 }
