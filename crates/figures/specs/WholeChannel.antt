-- Figures of document 02, No. 1: requests for a whole channel, from their bytes to their plans, in one table.
use Rattle.std.specs.Prelude.{ℕ, true, List, [], ◌∷◌, ◌++◌}
use Rattle.cases.specs.Figures.{Hold}
use Rattle.ads1299_registers.specs.Addresses.{BIAS_SENSP, BIAS_SENSN, LOFF_SENSP, LOFF_SENSN, LOFF_FLIP}
use Rattle.ads1299_serial.specs.declared.Direction.TheVariants.{Read}
use Rattle.ads1299_serial.specs.declared.Phase.TheVariants.{Held}
use Rattle.ads1299_serial.specs.Transfers.{transfer}
use Rattle.ads1299.specs.declared.Converter.{Converter}
use Rattle.ads1299.specs.State.{with_owners, with_continuous, with_standby, with_phase}
use Rattle.request.specs.Reading.{parsed}
use Rattle.planner.specs.Submission.{Submission}
use Rattle.planner.specs.Planned.{plan, planned}
use Rattle.planner.specs.Figures.{command}
use Rattle.figures.specs.Figures.{with_register, tenants}

-- a party's bytes in a state, with so much room; the count of the bytes read, the refusal and the plan
pub record Figure : Type 0 where
  pub state : Converter
  pub party : ℕ
  pub room : ℕ
  pub bytes : List ℕ
  pub used : ℕ
  pub refusal : ℕ
  pub sent : List ℕ

-- gives a figure from its parts
abbrev pub figure : Converter → ℕ → ℕ → List ℕ → ℕ → ℕ → List ℕ → Figure
figure state party room bytes used refusal sent =
    record { state = state; party = party; room = room; bytes = bytes; used = used; refusal = refusal; sent = sent }

-- gives the request that the bytes are read as, from the party and with the room
abbrev asked : Figure → Submission
asked x = record { party = x.party; request = (parsed x.bytes).request; room = x.room }

-- gives a figure worked out anew
abbrev pub worked_out : Figure → Figure
worked_out x =
    figure x.state x.party x.room x.bytes (parsed x.bytes).used (planned x.state (asked x)).refusal (plan x.state (asked x))

-- gives a state in command mode where channel n is party n's, with the neighbours' bits set in the registers that channels share
abbrev pub shared : Converter
shared =
    with_register
    (with_register (with_register (with_register (with_register (with_owners command tenants) BIAS_SENSP 0x12) BIAS_SENSN 0x85) LOFF_SENSP 0xFF) LOFF_SENSN 0x40)
    LOFF_FLIP
    0x08

-- gives the bytes of a request for a whole channel, up to the ninth value: power-down, gain 6, SRB2, input 5, then on, off, off, on
abbrev pub eight : ℕ → List ℕ
eight channel = 0x1E ∷ channel ∷ 1 ∷ 6 ∷ 1 ∷ 5 ∷ 1 ∷ 0 ∷ 0 ∷ 1 ∷ []

-- gives the bytes with the ninth value
abbrev pub nine : ℕ → ℕ → List ℕ
nine channel ninth = eight channel ++ (ninth ∷ [])

-- gives the same with gain 7, which no channel has
abbrev pub gain7 : List ℕ
gain7 = 0x1E ∷ 3 ∷ 1 ∷ 7 ∷ 1 ∷ 5 ∷ 1 ∷ 0 ∷ 0 ∷ 1 ∷ 1 ∷ []

-- gives the register writes of channel 3: CH3SET, then 0D to 11 with the neighbours' bits as they stood
abbrev pub writes : List ℕ
writes = 0x47 ∷ 0x00 ∷ 0xED ∷ 0x4D ∷ 0x04 ∷ 0x16 ∷ 0x81 ∷ 0xFB ∷ 0x44 ∷ 0x0C ∷ []

-- gives a number of two groups, the largest
abbrev pub large : List ℕ
large = 0xFF ∷ 0x7F ∷ []

-- gives the table: the four modes, each with just enough room and with a byte less; then what is refused, and the longest request
abbrev pub figures : List Figure
figures =
    figure shared 3 10 (nine 3 1) 11 0 writes
    ∷ figure shared 3 9 (nine 3 1) 11 9 []
    ∷ figure (with_standby shared true) 3 12 (nine 3 1) 11 0 (0x02 ∷ writes ++ (0x04 ∷ []))
    ∷ figure (with_standby shared true) 3 11 (nine 3 1) 11 9 []
    ∷ figure (with_continuous shared true) 3 12 (nine 3 1) 11 0 (0x11 ∷ writes ++ (0x10 ∷ []))
    ∷ figure (with_continuous shared true) 3 11 (nine 3 1) 11 9 []
    ∷ figure (with_standby (with_continuous shared true) true) 3 14 (nine 3 1) 11 0 (0x02 ∷ 0x11 ∷ writes ++ (0x10 ∷ 0x04 ∷ []))
    ∷ figure (with_standby (with_continuous shared true) true) 3 13 (nine 3 1) 11 9 []
    ∷ figure shared 3 10 (nine 3 2) 11 7 []
    ∷ figure shared 3 10 gain7 11 7 []
    ∷ figure shared 4 10 (nine 3 2) 11 6 []
    ∷ figure shared 0 10 (nine 3 1) 11 6 []
    ∷ figure shared 3 10 (nine 0 1) 11 5 []
    ∷ figure shared 9 10 (nine 9 2) 11 3 []
    ∷ figure shared 4 10 (nine 9 2) 11 5 []
    ∷ figure (with_phase shared (Held (transfer Read 0 0))) 3 9 (nine 3 2) 11 7 []
    ∷ figure (with_phase shared (Held (transfer Read 0 0))) 3 9 (nine 3 1) 11 8 []
    ∷ figure shared 3 10 (0x1D ∷ nine 3 1) 3 4 []
    ∷ figure shared 3 10 (0x1E ∷ large ++ large ++ large ++ large ++ large ++ large ++ large ++ large ++ large ++ large) 21 5 []
    ∷ []

-- Every figure of the table is what the definitions give.
abbrev pub FiguresHold : Type 0
FiguresHold = Hold worked_out figures
