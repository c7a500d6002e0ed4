-- What the auto modes scan: the channels of a round, in ascending order, over and over.
use Rattle.std.specs.Prelude.{ℕ, zero, suc, ◌+◌, ◌%◌, ◌<◌, Bool, true, false, cond, List, [], ◌∷◌, ◌≡◌, leb, length, get_or, replicate}
use Rattle.ads7953.specs.declared.Mode.{Mode}
use Rattle.ads7953.specs.declared.Mode.TheVariants.{Manual, Auto1, Auto2}
use Rattle.ads7953.specs.declared.Ads7953.{Ads7953}
use Rattle.ads7953.specs.Scan.{channel_count, listed}
use Rattle.ads7953.specs.Words.{decoded, channel_in}
use Rattle.ads7953.specs.declared.words.Command.{Command}
use Rattle.ads7953.specs.declared.words.Command.TheVariants.{SelectManual, SelectAuto1, SelectAuto2}
use Rattle.ads7953.specs.Latch.{programmed, restarts}
use Rattle.ads7953.specs.Frame.{valid}
use Rattle.ads7953.specs.Run.{orders}

-- gives those of so many channels, from one on, that pass a test, in ascending order
unfoldable pub channels_from : (ℕ → Bool) → ℕ → ℕ → List ℕ
channels_from test channel zero = []
channels_from test channel (suc more) = cond (test channel) (channel ∷ channels_from test (channel + 1) more) (channels_from test (channel + 1) more)

-- gives all channels that pass a test
abbrev pub channels : (ℕ → Bool) → List ℕ
channels test = channels_from test 0 channel_count

-- gives the channels of a round: the listed ones in auto-1, those up to the last in auto-2, in manual mode the one that is named
abbrev pub round : Mode → Ads7953 → ℕ → List ℕ
round Manual s w = channel_in w ∷ []
round Auto1 s w = channels (listed s.list)
round Auto2 s w = channels (λ c. leb c s.last)

-- gives what a word asks for that selects a mode
abbrev pub selecting : Mode → Command
selecting Manual = SelectManual
selecting Auto1 = SelectAuto1
selecting Auto2 = SelectAuto2

-- the word starts the mode anew: a manual word always does
abbrev pub starts_anew : Mode → Ads7953 → ℕ → Bool
starts_anew Manual s w = true
starts_anew Auto1 s w = restarts (programmed s w) Auto1
starts_anew Auto2 s w = restarts (programmed s w) Auto2

-- Once a word has started a mode anew, it and the 0000h after it order the channels of a round in ascending order, over and over.
abbrev pub RoundsRepeat : Type 0
RoundsRepeat =
    (mode : Mode) (s : Ads7953) (w : ℕ)
    → valid s ≡ true → s.programming ≡ false → decoded w ≡ selecting mode → starts_anew mode s w ≡ true → 0 < length (round mode s w)
    → (n : ℕ) → get_or (orders s (w ∷ replicate n 0)) n 0 ≡ get_or (round mode s w) (n % length (round mode s w)) 0
