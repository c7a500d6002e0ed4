-- What a word does when it is latched: the settings that it programs, and the channel that it orders (document 001, Tables 1 to 7).
use Rattle.std.specs.Prelude.{ℕ, Bool, true, false, cond, eqb}
use Rattle.ads7953.specs.declared.Mode.{Mode}
use Rattle.ads7953.specs.declared.Mode.TheVariants.{Manual, Auto1, Auto2}
use Rattle.ads7953.specs.declared.words.Command.{Command}
use Rattle.ads7953.specs.declared.words.Command.TheVariants.{Continue, SelectManual, SelectAuto1, SelectAuto2, ProgramAuto1, ProgramAuto2}
use Rattle.ads7953.specs.declared.Ads7953.{Ads7953}
use Rattle.ads7953.specs.Modes.{mode_number}
use Rattle.ads7953.specs.State.{with_mode, with_ordered, with_list, with_last, with_range2, with_reset, with_programming}
use Rattle.ads7953.specs.Words.{decoded, retained, resets_counter, selects_range2, channel_in, last_in}
use Rattle.ads7953.specs.Scan.{next_in, start_in}

-- gives the state that orders its mode's next channel, by the list and the last channel as they stand
unfoldable pub advanced : Ads7953 → Ads7953
advanced s = with_ordered s (next_in s.mode s.list s.last s.ordered)

-- gives the state with the settings of a word for an auto mode: the range and the counter reset, kept where DI11 is 0
unfoldable pub programmed : Ads7953 → ℕ → Ads7953
programmed s w = with_reset (with_range2 s (retained w (selects_range2 w) s.range2)) (retained w (resets_counter w) s.reset)

-- an auto mode starts anew: it is entered from another mode, or the counter is to be reset
unfoldable pub restarts : Ads7953 → Mode → Bool
restarts s mode = cond (eqb (mode_number s.mode) (mode_number mode)) s.reset true

-- gives the state after a word for manual mode: its channel is ordered whatever DI11 is, the range programmed where DI11 is 1
unfoldable pub manual_latched : Ads7953 → ℕ → Ads7953
manual_latched s w =
    with_range2 (with_ordered (with_mode s Manual) (channel_in w)) (retained w (selects_range2 w) s.range2)

-- gives the channel that an auto mode orders, once the word's settings are made
unfoldable pub auto_ordered : Ads7953 → Mode → ℕ
auto_ordered s mode = cond (restarts s mode) (start_in mode s.list s.ordered) (next_in mode s.list s.last s.ordered)

-- gives the state after a word for an auto mode
unfoldable pub auto_latched : Ads7953 → Mode → ℕ → Ads7953
auto_latched s mode w = with_ordered (with_mode (programmed s w) mode) (auto_ordered (programmed s w) mode)

-- gives the state after a word that is no list, by what it asks for
unfoldable pub commanded : Command → Ads7953 → ℕ → Ads7953
commanded Continue s w = advanced s
commanded SelectManual s w = manual_latched s w
commanded SelectAuto1 s w = auto_latched s Auto1 w
commanded SelectAuto2 s w = auto_latched s Auto2 w
commanded ProgramAuto1 s w = advanced (with_programming s true)
commanded ProgramAuto2 s w = advanced (with_last s (last_in w))

-- gives the state after a word: while auto-1 is being programmed all its bits are the list
unfoldable pub latched : Ads7953 → ℕ → Ads7953
latched s w = cond s.programming (advanced (with_programming (with_list s w) false)) (commanded (decoded w) s w)
