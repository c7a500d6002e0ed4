use Prim.Native.Nat.{ℕ, ◌+◌, ◌*◌, ◌-◌, ◌≤◌, ◌<◌}
use Rattle.ads1299_registers.specs.Addresses.{register_count}
use Rattle.ads1299_fields.proofs.Apart.{place_inside}
use Rattle.ads1299_fields.proofs.Rows.{Known, known}
use Rattle.ads1299_fields.specs.Names.{takes_channel, named}
use Rattle.ads1299_fields.specs.Places.{place}
use Rattle.ads1299_fields.specs.declared.Entry.{Entry}
use mathlib.Core.Bool.{true}
use mathlib.Core.Path.{◌≡◌, sym, ◌∙◌}
use Rattle.ads1299_fields.proofs.locate.Goals as goal

-- the sums stay within the registers and within a byte
inside : (f n : ℕ) (e : Entry) → Known f e → takes_channel f n ≡ true
    → (e.register + e.register_step * (n - 1) < register_count) × (e.width + (e.bit + e.bit_step * (n - 1)) ≤ 8)
unfolding place named
inside f n e k t =
    let h : named f n ≡ true = simp (k.field, t) in
    let i = place_inside f n h in
    rw k.same (rw h at i.in_list, rw h at i.in_byte)

pub place-requires : goal.place-requires
place-requires c =
    let r = known c.args.field _ _ c.look_up.ensures c.in-Some.is in
    rw c.saturating_sub.ensures (inside c.args.field c.args.channel _ r (sym c.takes_channel.ensures ∙ c.if-takes_channel.true))
