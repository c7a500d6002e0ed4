-- The words put so far stand at the start of the frame, and it has its length.
use Rattle.std.proofs.Common.{◌≡◌, ◌*◌, length, take}
use Rattle.ads1299_codes.specs.Words.{joined}
use Rattle.ads1299_frame.specs.Frame.{frame_word}
use Rattle.ads1299_frame.proofs.build.Given as goal

abbrev pub invariant-loop-i : goal.invariant-loop-i
invariant-loop-i l = record { long : length l.frame ≡ 27; so_far : take (3 * l.i) l.frame ≡ joined (frame_word l.registers l.codes l.p l.n) l.i }
