-- Worked figures: lists of two parties' requests for registers that they share, in several orders and from several states.
use Rattle.std.specs.Prelude.{ℕ, false, List, [], ◌∷◌, get_or, Option, None, Some}
use Rattle.cases.specs.Figures.{Hold}
use Rattle.ads1299_registers.specs.Addresses.{BIAS_SENSP}
use Rattle.ads1299_serial.specs.declared.Direction.TheVariants.{Read}
use Rattle.ads1299_serial.specs.declared.Phase.TheVariants.{Held}
use Rattle.ads1299_serial.specs.Transfers.{transfer}
use Rattle.ads1299.specs.declared.Converter.{Converter}
use Rattle.ads1299.specs.State.{with_owners, with_output, with_continuous, with_phase}
use Rattle.ads1299.specs.PowerUp.{powered_up}
use Rattle.ads1299_fields.specs.Names.{whole_channel}
use Rattle.request.specs.Requests.{request}
use Rattle.planner.specs.Submission.{Submission}
use Rattle.isolation.specs.Lists.{numbers, plans, end}

-- a list of requests from a state, with the numbers, the plans, BIAS_SENSP and the output at the end
pub record Figure : Type 0 where
  pub first : Converter
  pub requests : List Submission
  pub answers : List ℕ
  pub bytes : List (List ℕ)
  pub register : ℕ
  pub output : Option ℕ

-- gives a figure worked out anew
abbrev pub worked_out : Figure → Figure
worked_out figure =
    record {
      first = figure.first;
      requests = figure.requests;
      answers = numbers figure.first figure.requests;
      bytes = plans figure.first figure.requests;
      register = get_or (end figure.first figure.requests).registers BIAS_SENSP 0;
      output = (end figure.first figure.requests).output;
    }

-- gives a figure from its parts
abbrev pub row : Converter → List Submission → List ℕ → List (List ℕ) → ℕ → Option ℕ → Figure
row first requests answers bytes register output =
    record { first = first; requests = requests; answers = answers; bytes = bytes; register = register; output = output }

-- gives a party's request for field 5 (BIASPn) of a channel to be on, with room for this many bytes
abbrev pub on : ℕ → ℕ → ℕ → Submission
on party channel room = record { party = party; request = request 5 channel (1 ∷ []); room = room }

-- gives a party's request for a whole channel: gain 6, BIASPn and LOFF_FLIPn on, all else off
abbrev pub whole : ℕ → ℕ → ℕ → Submission
whole party channel room =
    record { party = party; request = request whole_channel channel (0 ∷ 6 ∷ 0 ∷ 0 ∷ 1 ∷ 0 ∷ 0 ∷ 0 ∷ 1 ∷ []); room = room }

-- gives a fresh state with output pending, in which channels 1 and 2 are party 1's and channels 3 and 4 party 2's
abbrev pub shared : Converter
shared = with_output (with_owners (powered_up 0x3E).converter (1 ∷ 1 ∷ 2 ∷ 2 ∷ 0 ∷ 0 ∷ 0 ∷ 0 ∷ [])) (Some 3)

-- gives that state with an owner that is no party
abbrev pub invalid : Converter
invalid = with_owners shared (9 ∷ 1 ∷ 2 ∷ 2 ∷ 0 ∷ 0 ∷ 0 ∷ 0 ∷ [])

-- gives that state in command mode, half through a read
abbrev pub halfway : Converter
halfway = with_phase (with_continuous (with_output shared None) false) (Held (transfer Read BIAS_SENSP 0))

-- gives the plan in continuous mode with a data byte for BIAS_SENSP
abbrev pub writes : ℕ → List ℕ
writes byte = 0x11 ∷ 0x4D ∷ 0x00 ∷ byte ∷ 0x10 ∷ []

-- gives a whole channel's plan in continuous mode: CHnSET's command, then the bytes for BIAS_SENSP and LOFF_FLIP
abbrev pub writes_whole : ℕ → ℕ → ℕ → List ℕ
writes_whole command positive flip =
    0x11 ∷ command ∷ 0x00 ∷ 0x60 ∷ 0x4D ∷ 0x04 ∷ positive ∷ 0x00 ∷ 0x00 ∷ 0x00 ∷ flip ∷ 0x10 ∷ []

-- gives the table: two merges of the same lists; two of lists with whole channels; an unknown party's request before another; then lists with none accepted
abbrev pub figures : List Figure
figures =
    row shared (on 1 1 5 ∷ on 2 3 5 ∷ on 1 3 5 ∷ on 1 2 5 ∷ [])
    (0 ∷ 0 ∷ 6 ∷ 0 ∷ []) (writes 0x01 ∷ writes 0x05 ∷ [] ∷ writes 0x07 ∷ []) 0x07 None
    ∷ row shared (on 1 1 5 ∷ on 1 3 5 ∷ on 1 2 5 ∷ on 2 3 5 ∷ [])
    (0 ∷ 6 ∷ 0 ∷ 0 ∷ []) (writes 0x01 ∷ [] ∷ writes 0x03 ∷ writes 0x07 ∷ []) 0x07 None
    ∷ row shared (whole 1 1 12 ∷ on 2 3 5 ∷ whole 2 4 12 ∷ whole 2 1 12 ∷ whole 1 2 11 ∷ [])
    (0 ∷ 0 ∷ 0 ∷ 6 ∷ 9 ∷ []) (writes_whole 0x45 0x01 0x01 ∷ writes 0x05 ∷ writes_whole 0x48 0x0D 0x09 ∷ [] ∷ [] ∷ []) 0x0D None
    ∷ row shared (on 2 3 5 ∷ whole 2 4 12 ∷ whole 2 1 12 ∷ whole 1 1 12 ∷ whole 1 2 11 ∷ [])
    (0 ∷ 0 ∷ 6 ∷ 0 ∷ 9 ∷ []) (writes 0x04 ∷ writes_whole 0x48 0x0C 0x08 ∷ [] ∷ writes_whole 0x45 0x0D 0x09 ∷ [] ∷ []) 0x0D None
    ∷ row shared (on 9 1 5 ∷ on 2 3 5 ∷ []) (3 ∷ 0 ∷ []) ([] ∷ writes 0x04 ∷ []) 0x04 None
    ∷ row shared (on 0 1 5 ∷ on 2 3 4 ∷ on 1 9 5 ∷ []) (6 ∷ 9 ∷ 5 ∷ []) ([] ∷ [] ∷ [] ∷ []) 0x00 (Some 3)
    ∷ row shared [] [] [] 0x00 (Some 3)
    ∷ row halfway (on 1 1 5 ∷ on 2 1 5 ∷ []) (8 ∷ 6 ∷ []) ([] ∷ [] ∷ []) 0x00 None
    ∷ row invalid (on 9 1 5 ∷ on 2 3 5 ∷ []) (13 ∷ 13 ∷ []) ([] ∷ [] ∷ []) 0x00 (Some 3)
    ∷ []

-- Every figure of the table is what the definitions give.
abbrev pub FiguresHold : Type 0
FiguresHold = Hold worked_out figures
