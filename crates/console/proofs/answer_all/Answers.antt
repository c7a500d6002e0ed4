use Rattle.std.proofs.Common.{rules}
use mathlib.Core.Path.{◌≡◌}
use Prim.Native.Nat.{◌<◌}
use lib.ListN.{length}
use Rattle.console.proofs.Sessions.{no_more, text}
use Rattle.console.proofs.Writing.{nothing, room_left, both}
use Rattle.console.proofs.answer_all.Goals as goal

pub loop-rest-preserved : goal.loop-rest-preserved
loop-rest-preserved c =
    let l = c.loop-rest in
    let some : 0 < length l.rest.now = search rules in
    let e = c.answer-turn.ensures in
    let t = text l.converter c.args.party l.rest.now some c.answer-turn.result e.0 in
    let fits = rw t at l.invariant.room in
    record {
      room = room_left e.1 _ fits;
      whole = λ after q. l.invariant.whole after (rw t (both e.1 _ fits q));
    }

pub returns : goal.returns
returns c =
    let l = c.loop-rest in
    let none : length l.rest.now ≡ 0 = search rules in
    l.invariant.whole l.writer (rw (no_more l.converter c.args.party l.rest.now none) (nothing l.writer))
