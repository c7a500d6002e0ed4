-- Worked frames, in one table (document 001 has none): the codes are 100h, 101h, and so on.
use Rattle.std.specs.Prelude.{ℕ, ◌+◌, true, false, List, [], ◌∷◌}
use Rattle.cases.specs.Figures.{Hold}
use Rattle.ads7953.specs.declared.Mode.TheVariants.{Manual, Auto1, Auto2}
use Rattle.ads7953.specs.declared.Ads7953.{Ads7953}
use Rattle.ads7953.specs.State.{state, with_channel, with_ordered, with_last}
use Rattle.ads7953.specs.Frame.{powered_up, framed}
use Rattle.ads7953.specs.Run.{Sent, sent, after, replies}

-- gives frames with these words, whose codes count up from one on
abbrev pub counted : ℕ → List ℕ → List Sent
counted code [] = []
counted code (w ∷ words) = sent w code ∷ counted (code + 1) words

-- words from power-up on and the replies; words and the state after them; a state, a word and a code, and the refusal and the reply
pub data Figure : Type 0 where
  replying : List ℕ → List ℕ → Figure
  leaving : List ℕ → Ads7953 → Figure
  answering : Ads7953 → ℕ → ℕ → ℕ → ℕ → Figure

-- gives a figure worked out anew
abbrev pub worked_out : Figure → Figure
worked_out (replying words answers) = replying words (replies powered_up (counted 0x100 words))
worked_out (leaving words s) = leaving words (after powered_up (counted 0x100 words))
worked_out (answering s w code refusal reply) = answering s w code (framed s w code).refusal (framed s w code).reply

-- gives the table
abbrev pub figures : List Figure
figures =
    -- manual mode: channel 5, with DI11 0, two frames later
    replying (0x1280 ∷ 0 ∷ 0 ∷ 0 ∷ []) (0x0000 ∷ 0x0101 ∷ 0x5102 ∷ 0x5103 ∷ [])
    -- auto-1 with channels 1 and 4
    ∷ replying (0x8000 ∷ 0x0012 ∷ 0x2800 ∷ 0 ∷ 0 ∷ 0 ∷ 0 ∷ 0 ∷ [])
    (0x0000 ∷ 0x0101 ∷ 0x0102 ∷ 0x0103 ∷ 0x1104 ∷ 0x4105 ∷ 0x1106 ∷ 0x4107 ∷ [])
    -- auto-2 up to channel 2
    ∷ replying (0x9080 ∷ 0x3800 ∷ 0 ∷ 0 ∷ 0 ∷ 0 ∷ 0 ∷ 0 ∷ [])
    (0x0000 ∷ 0x0101 ∷ 0x0102 ∷ 0x0103 ∷ 0x1104 ∷ 0x2105 ∷ 0x0106 ∷ 0x1107 ∷ [])
    -- a new list while auto-1 scans: used by the order of the frame that carries it, not by the multiplexer of that frame
    ∷ replying (0x2800 ∷ 0 ∷ 0 ∷ 0x8000 ∷ 0x0208 ∷ 0 ∷ 0 ∷ 0 ∷ 0 ∷ [])
    (0x0000 ∷ 0x0101 ∷ 0x0102 ∷ 0x1103 ∷ 0x2104 ∷ 0x3105 ∷ 0x9106 ∷ 0x3107 ∷ 0x9108 ∷ [])
    -- a new last channel below the counter
    ∷ replying (0x3800 ∷ 0 ∷ 0 ∷ 0 ∷ 0 ∷ 0 ∷ 0x9080 ∷ 0 ∷ 0 ∷ 0 ∷ 0 ∷ [])
    (0x0000 ∷ 0x0101 ∷ 0x0102 ∷ 0x1103 ∷ 0x2104 ∷ 0x3105 ∷ 0x4106 ∷ 0x5107 ∷ 0x0108 ∷ 0x1109 ∷ 0x210A ∷ [])
    -- a kept counter reset resets again; 0000h moves on
    ∷ replying (0x2C00 ∷ 0x2000 ∷ 0x2000 ∷ 0 ∷ 0 ∷ 0 ∷ []) (0x0000 ∷ 0x0101 ∷ 0x0102 ∷ 0x0103 ∷ 0x0104 ∷ 0x1105 ∷ [])
    -- an empty list keeps the present channel
    ∷ replying (0x1280 ∷ 0x8000 ∷ 0x0000 ∷ 0x2800 ∷ 0 ∷ 0 ∷ []) (0x0000 ∷ 0x0101 ∷ 0x5102 ∷ 0x5103 ∷ 0x5104 ∷ 0x5105 ∷ [])
    -- entering auto-2 from auto-1 starts at 0, whatever DI10 and DI11 say; 4xxxh to 7xxxh and Axxxh to Fxxxh go on as 0000h
    ∷ replying (0x2800 ∷ 0x4FFF ∷ 0xFFFF ∷ 0x3000 ∷ 0xA5A5 ∷ 0 ∷ 0 ∷ []) (0x0000 ∷ 0x0101 ∷ 0x0102 ∷ 0x1103 ∷ 0x2104 ∷ 0x0105 ∷ 0x1106 ∷ [])
    -- a list that looks like a command is a list
    ∷ leaving (0x8000 ∷ 0x8000 ∷ []) (state Manual 0 0 0x8000 15 false false false false)
    -- half through programming
    ∷ leaving (0x8FFF ∷ []) (state Manual 0 0 0xFFFF 15 false false true false)
    -- DI11 1 programs range and counter reset; a manual word with DI11 0 keeps both, with 1 the counter reset
    ∷ leaving (0x2C40 ∷ 0x1000 ∷ []) (state Manual 0 0 0xFFFF 15 true true false false)
    ∷ leaving (0x2C40 ∷ 0x1F80 ∷ []) (state Manual 0 15 0xFFFF 15 false true false false)
    ∷ leaving (0x3C40 ∷ 0x3800 ∷ []) (state Auto2 0 1 0xFFFF 15 false false false false)
    ∷ leaving (0x9FFF ∷ 0x2040 ∷ []) (state Auto1 0 0 0xFFFF 15 false false false false)
    -- 13 before 11, and the largest that pass
    ∷ answering (with_channel powered_up 16) 0 4096 13 0
    ∷ answering (with_ordered powered_up 16) 0 0 13 0
    ∷ answering (with_last powered_up 16) 0 0 13 0
    ∷ answering powered_up 0 4096 11 0
    ∷ answering (state Auto1 15 15 0 15 false false false false) 0 4095 0 0xFFFF
    ∷ []

-- Every figure of the table is what the definitions give.
abbrev pub FiguresHold : Type 0
FiguresHold = Hold worked_out figures
