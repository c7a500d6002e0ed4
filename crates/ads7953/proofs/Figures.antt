-- The figures hold, by computation.
use mathlib.Core.Path.{refl}
use Rattle.bits.specs.Fields.{field, bit}
use Rattle.ads7953.specs.Words.{decoded, programs, retained, resets_counter, selects_range2, channel_in, last_in}
use Rattle.ads7953.specs.Scan.{listed_among, listed_from, lowest_listed, next_listed, next_up_to}
use Rattle.ads7953.specs.Latch.{advanced, programmed, restarts, manual_latched, auto_ordered, auto_latched, commanded, latched}
use Rattle.ads7953.specs.Frame.{powered_up, valid, frame_refusal, reply, selected, followed, framed}
use Rattle.ads7953.specs.Run.{after, replies}
use Rattle.ads7953.specs.Figures.{FiguresHold}

pub figures_hold : FiguresHold
unfolding field bit decoded programs retained resets_counter selects_range2 channel_in last_in listed_among listed_from lowest_listed next_listed next_up_to
    advanced programmed restarts manual_latched auto_ordered auto_latched commanded latched powered_up valid frame_refusal reply selected followed framed after replies
figures_hold = refl
