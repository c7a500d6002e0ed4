-- Figures of document 02, No. 4, in one table: numbers, power-up, plans, bytes, samples, grants and readings on a bench.
use Rattle.std.specs.Prelude.{ℕ, true, false, List, [], ◌∷◌, ◌++◌, map, ℤ, pos, neg_ℤ, get_or, replicate}
use Rattle.cases.specs.Figures.{Hold}
use Rattle.ads1299_registers.specs.Addresses.{ID}
use Rattle.ads1299_codes.specs.declared.Rail.TheVariants.{Neither}
use Rattle.ads1299.specs.declared.Converter.{Converter}
use Rattle.ads1299.specs.State.{with_owners, with_converting}
use Rattle.ads1299.specs.Figures.{shared}
use Rattle.planner.specs.Submission.{Submission}
use Rattle.planner.specs.Figures.{asks, command, half}
use Rattle.readings.specs.Answers.{Reading}
use Rattle.readings.specs.Reading.{reading}
use Rattle.readings.specs.Figures.{full}
use Rattle.lines.specs.Lines.{converter_of, local_channel}
use Rattle.bench.specs.declared.Bench.{Bench}
use Rattle.bench.specs.Bench.{with_converter, bench_owners}
use Rattle.bench.specs.PowerUp.{bench_powered_up}
use Rattle.bench.specs.Line.{bench_stepped, bench_deselected, bench_sampled}
use Rattle.bench.specs.Run.{bytes_for}
use Rattle.bench_planner.specs.Planned.{bench_planned, bench_plan}
use Rattle.bench_grants.specs.Grant.{bench_granted}
use Rattle.bench_readings.specs.Reading.{bench_reading}

-- A figure by its kind.
pub data Figure : Type 0 where
  -- a channel's number on the bench; its converter, and the channel as that converter counts it
  mapped : ℕ → ℕ → ℕ → Figure
  -- four IDs; the refusal, and the IDs that the bench has
  powering : List ℕ → ℕ → List ℕ → Figure
  -- a bench and a request; the refusal, the converter's number and the plan
  planning : Bench → Submission → ℕ → ℕ → List (ℕ × ℕ) → Figure
  -- a bench, a converter's number and a byte; the refusals of the byte and of that line's rise
  coming : Bench → ℕ → ℕ → ℕ → ℕ → Figure
  -- a bench, a converter's number and the codes of a sample; the refusal
  sampling : Bench → ℕ → List ℤ → ℕ → Figure
  -- a bench, caller, receiver and channel of a grant; the refusal and the owners after it
  granting : Bench → ℕ → ℕ → ℕ → ℕ → List ℕ → Figure
  -- a bench, a converter's number, party, channel and a frame; the reading
  reads : Bench → ℕ → ℕ → ℕ → List ℕ → Reading → Figure

-- gives the IDs of a bench
abbrev pub ids_of : Bench → List ℕ
ids_of b = map (λ (c : Converter). get_or c.registers ID 0) b.converters

-- gives a figure worked out anew
abbrev pub worked_out : Figure → Figure
worked_out (mapped n k m) = mapped n (converter_of n) (local_channel n)
worked_out (powering ids refusal known) = powering ids (bench_powered_up ids).refusal (ids_of (bench_powered_up ids).bench)
worked_out (planning b x refusal k bytes) = planning b x (bench_planned b x).refusal (bench_planned b x).converter (bench_plan b x)
worked_out (coming b k byte refusal rise) = coming b k byte (bench_stepped b k byte).refusal (bench_deselected b k).refusal
worked_out (sampling b k codes refusal) = sampling b k codes (bench_sampled b k codes 0x00 0x00).refusal
worked_out (granting b caller receiver n refusal owners) =
    granting b caller receiver n (bench_granted b caller receiver n).refusal (bench_owners (bench_granted b caller receiver n).next)
worked_out (reads b k party n frame answer) = reads b k party n frame (bench_reading b k party n frame)

-- gives a bench of fresh converters in command mode, every channel the administrator's
abbrev pub idle : Bench
idle = record { converters = replicate 4 command }

-- gives that bench with converter 2 half through a command
abbrev pub halfway : Bench
halfway = with_converter idle 2 half

-- gives that bench with an owner of converter 3 that is no party
abbrev pub damaged : Bench
damaged = with_converter idle 3 (with_owners command (9 ∷ 0 ∷ 0 ∷ 0 ∷ 0 ∷ 0 ∷ 0 ∷ 0 ∷ []))

-- gives a bench of which channels 10 and 11 are party 2's, channel 16 is party 8's, and all others are the administrator's
abbrev pub rented : Bench
rented = with_converter idle 1 shared

-- gives a bench of which converter 3 alone takes samples
abbrev pub started : Bench
started = with_converter idle 3 (with_converting command true)

-- gives no reading
abbrev pub unread : ℕ → Reading
unread refusal = reading refusal (pos 0) Neither false false

-- gives the table: channels at both ends of a converter, converters as a whole and numbers that name none; four IDs, and one bad one among
-- four; channel 9, whose gain is in CH1SET of converter 1; the data rate of converter 2; numbers that do not go with the field; 8 and 13;
-- numbers that no converter has; samples; grants; readings with the channel's converter and with others
abbrev pub figures : List Figure
figures =
    mapped 1 0 1 ∷ mapped 8 0 8 ∷ mapped 9 1 1 ∷ mapped 16 1 8 ∷ mapped 17 2 1 ∷ mapped 25 3 1 ∷ mapped 32 3 8
    ∷ mapped 0 0 0 ∷ mapped 33 1 0 ∷ mapped 34 2 0 ∷ mapped 35 3 0 ∷ mapped 36 0 9 ∷ mapped 4294967295 0 9
    ∷ powering (0x3E ∷ 0x1E ∷ 0x9E ∷ 0xFE ∷ []) 0 (0x3E ∷ 0x1E ∷ 0x9E ∷ 0xFE ∷ [])
    ∷ powering (0x3E ∷ 0x3E ∷ 0x3E ∷ 0x3F ∷ []) 13 (0x00 ∷ 0x00 ∷ 0x00 ∷ 0x00 ∷ [])
    ∷ planning idle (asks 0 2 9 4 3) 0 1 (bytes_for 1 (0x45 ∷ 0x00 ∷ 0x41 ∷ []))
    ∷ planning idle (asks 0 2 8 4 3) 0 0 (bytes_for 0 (0x4C ∷ 0x00 ∷ 0x41 ∷ []))
    ∷ planning idle (asks 0 2 32 4 3) 0 3 (bytes_for 3 (0x4C ∷ 0x00 ∷ 0x41 ∷ []))
    ∷ planning idle (asks 0 12 34 5 3) 0 2 (bytes_for 2 (0x41 ∷ 0x00 ∷ 0x95 ∷ []))
    ∷ planning idle (asks 0 12 0 5 3) 0 0 (bytes_for 0 (0x41 ∷ 0x00 ∷ 0x95 ∷ []))
    ∷ planning idle (asks 0 2 33 4 3) 5 0 []
    ∷ planning idle (asks 0 12 9 5 3) 5 0 []
    ∷ planning idle (asks 0 12 36 5 3) 5 0 []
    ∷ planning halfway (asks 0 2 9 4 3) 0 1 (bytes_for 1 (0x45 ∷ 0x00 ∷ 0x41 ∷ []))
    ∷ planning halfway (asks 0 2 24 4 3) 8 0 []
    ∷ planning halfway (asks 0 12 34 5 3) 8 0 []
    ∷ planning damaged (asks 0 2 1 4 3) 13 0 []
    ∷ planning damaged (asks 9 0 36 4 0) 13 0 []
    ∷ planning rented (asks 2 2 10 4 5) 0 1 (bytes_for 1 (0x11 ∷ 0x46 ∷ 0x00 ∷ 0x41 ∷ 0x10 ∷ []))
    ∷ planning rented (asks 2 2 2 4 5) 6 0 []
    ∷ coming idle 3 0x00 0 0
    ∷ coming idle 4 0x00 5 5
    ∷ coming damaged 4 0x00 13 13
    ∷ coming damaged 0 0x00 13 13
    ∷ sampling started 3 (replicate 8 (pos 0)) 0
    ∷ sampling started 3 [] 11
    ∷ sampling started 0 [] 10
    ∷ sampling started 4 [] 5
    ∷ sampling damaged 4 [] 13
    ∷ granting idle 0 5 9 0 (replicate 8 0 ++ (5 ∷ replicate 23 0))
    ∷ granting idle 0 5 32 0 (replicate 31 0 ++ (5 ∷ []))
    ∷ granting idle 0 5 33 5 (replicate 32 0)
    ∷ granting idle 0 5 0 5 (replicate 32 0)
    ∷ granting idle 5 5 9 6 (replicate 32 0)
    ∷ reads rented 1 2 10 full (reading 0 (neg_ℤ (pos 1)) Neither true false)
    ∷ reads rented 1 0 9 full (reading 0 (neg_ℤ (pos 1)) Neither false false)
    ∷ reads rented 0 0 9 full (unread 5)
    ∷ reads rented 5 0 9 full (unread 5)
    ∷ reads rented 4 0 36 full (unread 5)
    ∷ reads rented 1 2 2 full (unread 5)
    ∷ reads rented 0 2 2 full (unread 6)
    ∷ reads rented 1 2 10 [] (unread 12)
    ∷ reads damaged 4 9 0 [] (unread 13)
    ∷ []

-- Every figure of the table is what the definitions give.
abbrev pub FiguresHold : Type 0
FiguresHold = Hold worked_out figures
