-- Requests with two faults each, in one table: the one that is tried first is the answer.
use Rattle.std.specs.Prelude.{ℕ, true, false, List, [], ◌∷◌}
use Rattle.cases.specs.Figures.{Hold}
use Rattle.request.specs.Requests.{request}
use Rattle.ads1299_serial.specs.declared.Direction.TheVariants.{Read}
use Rattle.ads1299_serial.specs.declared.Phase.TheVariants.{Held}
use Rattle.ads1299_serial.specs.Transfers.{transfer}
use Rattle.ads1299.specs.declared.Converter.{Converter}
use Rattle.ads1299.specs.State.{with_continuous, with_standby, with_phase}
use Rattle.ads1299.specs.PowerUp.{powered_up}
use Rattle.planner.specs.Submission.{Submission}
use Rattle.planner.specs.Planned.{plan, planned}

-- a state and a request; the refusal and the plan
pub data Figure : Type 0 where
  planning : Converter → Submission → ℕ → List ℕ → Figure

-- gives a figure worked out anew
abbrev pub worked_out : Figure → Figure
worked_out (planning s x refusal bytes) = planning s x (planned s x).refusal (plan s x)

-- gives a party's request for a field, a channel and a value, with so much room
abbrev pub asks : ℕ → ℕ → ℕ → ℕ → ℕ → Submission
asks party field channel value room = record { party = party; request = request field channel (value ∷ []); room = room }

-- gives the state after power-up, where every channel is the administrator's
abbrev pub fresh : Converter
fresh = (powered_up 0x3E).converter

-- gives the fresh state in command mode
abbrev pub command : Converter
command = with_continuous fresh false

-- gives a state half through a command, in which no request is accepted
abbrev pub half : Converter
half = with_phase command (Held (transfer Read 0 0))

-- gives the table
abbrev pub figures : List Figure
figures =
    planning (with_standby half true) (asks 9 2 3 4 7) 13 []
    ∷ planning fresh (asks 9 27 0 0 7) 3 []
    ∷ planning fresh (asks 0 0 9 0 7) 4 []
    ∷ planning fresh (asks 1 2 9 4 7) 5 []
    ∷ planning fresh (asks 1 2 3 7 7) 6 []
    ∷ planning half (asks 0 2 3 7 7) 7 []
    ∷ planning half (asks 0 2 3 4 0) 8 []
    ∷ []

-- Every figure of the table is what the definitions give.
abbrev pub FiguresHold : Type 0
FiguresHold = Hold worked_out figures
