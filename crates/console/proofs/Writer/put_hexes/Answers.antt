use native.Mathlib.Omega.{arith}
use mathlib.Core.Path.{ap}
use mathlib.Core.List.{List, ◌++◌}
use Prim.Native.Nat.{ℕ, ◌+◌, ◌≤◌, ◌<◌}
use lib.ListN.{length, take, get_or}
use Rattle.console.specs.declared.Writer.{Writer}
use Rattle.console.specs.Text.{hex, hexes}
use Rattle.console.proofs.Texts.{length_hexes, hexes_so_far, next_hex}
use Rattle.console.proofs.Writing.{room_left, both}
use Rattle.console.proofs.Writer.put_hexes.Goals as goal

-- there is room for one more
next_room : (w : Writer) (bytes : List ℕ) (i : ℕ) → i < length bytes → w.place + length (hexes bytes) ≤ length w.buffer.now
    → w.place + length (hexes (take i bytes) ++ hex (get_or bytes i 0)) ≤ length w.buffer.now
next_room w bytes i h room = omega (arith, length_hexes bytes, hexes_so_far bytes (i + 1), ap length (next_hex bytes i h))

pub put_hex-requires : goal.put_hex-requires
put_hex-requires c = let l = c.loop-byte in
    room_left l.invariant _ (next_room c.args.self.now c.args.bytes.now l.byte-index c.loop-byte-test.true c.requires)

pub loop-byte-preserved : goal.loop-byte-preserved
loop-byte-preserved c = let l = c.loop-byte in
    let room = next_room c.args.self.now c.args.bytes.now l.byte-index c.loop-byte-test.true c.requires in
    rw (next_hex c.args.bytes.now l.byte-index c.loop-byte-test.true) (both l.invariant _ room c.put_hex.ensures)
