-- The loop keeps that there is room for the lines of the rest, and that who puts them puts the whole session: nothing is said of the requests passed.
use Prim.Native.Nat.{◌+◌, ◌≤◌}
use lib.ListN.{length}
use Rattle.console.specs.declared.Writer.{Writer}
use Rattle.console.specs.Turn.{fresh}
use Rattle.console.specs.Transcript.{session}
use Rattle.console.specs.Wrote.{Wrote}
use Rattle.console.proofs.answer_all.Given as goal

abbrev pub invariant-loop-rest : goal.invariant-loop-rest
invariant-loop-rest l = record {
  room : l.writer.place + length (session l.converter l.party l.rest) ≤ length l.writer.buffer.now;
  whole : (after : Writer) → Wrote l.writer after (session l.converter l.party l.rest) → Wrote l.initial.writer after (session fresh l.party l.bytes);
}

abbrev pub decreases-loop-rest : goal.decreases-loop-rest
decreases-loop-rest l = length l.rest
