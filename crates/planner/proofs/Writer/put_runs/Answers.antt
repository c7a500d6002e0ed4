use borrow.Author.Tests.{eq-eqb, ne_eqb}
use native.Mathlib.Omega.{arith}
use Prim.Native.Nat.{ℕ, ◌+◌, ◌-◌, ◌≤◌}
use mathlib.Core.Bool.{true}
use mathlib.Core.List.{List}
use mathlib.Core.Path.{◌≡◌, ap}
use lib.Dec.{eqb}
use lib.ListN.{length, length-append}
use Rattle.ads1299_registers.specs.Addresses.{CH1SET}
use Rattle.ads1299_registers.proofs.Bounds.{Bounds, bounds}
use Rattle.ads1299_fields.specs.Names.{whole_channel, takes_channel}
use Rattle.ads1299_fields.specs.Places.{place}
use Rattle.request.specs.declared.Request.{Request}
use Rattle.planner.specs.declared.Writer.{Writer}
use Rattle.planner.specs.Wrote.{Wrote}
use Rattle.planner.specs.Runs.{run, channel_register, channel_bits, runs, writing, writing_all, runs_length}
use Rattle.planner.proofs.Runs.{writing_length, all_length}
use Rattle.planner.proofs.RunBytes.{whole_bytes, field_bytes, alone}
use Rattle.planner.proofs.Settings.{whole_takes}
use Rattle.planner.proofs.Buffer.{room_left, both}
use Rattle.planner.proofs.Writer.put_runs.Goals as goal

-- a whole channel: its number, and the bytes of both runs
module _ (r : Request) (whole : eqb r.field whole_channel ≡ true) (takes : takes_channel r.field r.channel ≡ true) where
  in_range : Bounds r.channel
  in_range = bounds r.channel (whole_takes r whole takes)

  -- the code adds before it subtracts
  address : CH1SET + r.channel - 1 ≡ channel_register r.channel
  address = let b = in_range in omega (arith, b.low)

  abbrev set : List ℕ → List ℕ
  set registers = writing registers (run (channel_register r.channel) 0)

  module _ (registers : List ℕ) (w₀ : Writer) (room : w₀.place + runs_length (runs r) ≤ length w₀.buffer.now) where
    fits : w₀.place + (length (set registers) + length (writing registers channel_bits)) ≤ length w₀.buffer.now
    fits = omega (arith, room, ap length (whole_bytes registers r whole), all_length registers (runs r), length-append (set registers) (writing registers channel_bits))

    set_fits : w₀.place + 3 ≤ length w₀.buffer.now
    set_fits = omega (arith, fits, writing_length registers (run (channel_register r.channel) 0))

    module _ {w₁ : Writer} (p : Wrote w₀ w₁ (writing registers (run (CH1SET + r.channel - 1) 0))) where
      set_put : Wrote w₀ w₁ (set registers)
      set_put = rw address at p

      bits_fit : w₁.place + (3 + channel_bits.further) ≤ length w₁.buffer.now
      bits_fit = omega (arith, room_left set_put (length (writing registers channel_bits)) fits, writing_length registers channel_bits)

      both_put : {w₂ : Writer} → Wrote w₁ w₂ (writing registers channel_bits) → Wrote w₀ w₂ (writing_all registers (runs r))
      both_put q = rw (whole_bytes registers r whole) (both set_put q fits)

pub put_run-requires : goal.put_run-requires
put_run-requires c =
    let w = eq-eqb _ _ c.if-request-eq-WHOLE_CHANNEL.true in
    let b = in_range c.args.request w c.requires.0 in
    (omega (arith, b.high), set_fits c.args.request w c.requires.0 c.args.registers c.args.self.now c.requires.1)

pub put_channel_bits-requires : goal.put_channel_bits-requires
put_channel_bits-requires c =
    let w = eq-eqb _ _ c.if-request-eq-WHOLE_CHANNEL.true in
    bits_fit c.args.request w c.requires.0 c.args.registers _ c.requires.1 c.put_run.ensures

pub returns-then-request-eq-WHOLE_CHANNEL : goal.returns-then-request-eq-WHOLE_CHANNEL
returns-then-request-eq-WHOLE_CHANNEL c =
    let w = eq-eqb _ _ c.if-request-eq-WHOLE_CHANNEL.true in
    both_put c.args.request w c.requires.0 c.args.registers _ c.requires.1 c.put_run.ensures c.put_channel_bits.ensures

pub put_run-requires-else-request-eq-WHOLE_CHANNEL : goal.put_run-requires-else-request-eq-WHOLE_CHANNEL
put_run-requires-else-request-eq-WHOLE_CHANNEL c =
    let r = c.args.request in
    let b = ap length (field_bytes c.args.registers r (ne_eqb _ _ c.if-request-eq-WHOLE_CHANNEL.false)) in
    rw c.locate-place.ensures (
      alone _ _,
      omega (arith, c.requires.1, b, all_length c.args.registers (runs r), writing_length c.args.registers (run (place r.field r.channel).register 0)),
    )

pub returns-else-request-eq-WHOLE_CHANNEL : goal.returns-else-request-eq-WHOLE_CHANNEL
returns-else-request-eq-WHOLE_CHANNEL c =
    rw (field_bytes c.args.registers c.args.request (ne_eqb _ _ c.if-request-eq-WHOLE_CHANNEL.false)) (rw c.locate-place.ensures at c.put_run-else-request-eq-WHOLE_CHANNEL.ensures)
