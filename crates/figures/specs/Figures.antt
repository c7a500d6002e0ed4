-- The figures of document 01 ("The program, and figures to check", those marked M), in one table.
use Rattle.std.specs.Prelude.{ℕ, true, List, [], ◌∷◌, ℤ, pos, neg_ℤ, replicate, set, take, Some}
use Rattle.cases.specs.Figures.{Hold}
use Rattle.ads1299_registers.specs.Addresses.{CONFIG1, CH1SET, BIAS_SENSP, GPIO, register_count}
use Rattle.ads1299_codes.specs.Codes.{word_of, code_of}
use Rattle.ads1299_codes.specs.Words.{word_bytes, word_at}
use Rattle.ads1299_frame.specs.Frame.{frame_length, frame_of}
use Rattle.ads1299.specs.declared.Converter.{Converter}
use Rattle.ads1299.specs.State.{with_registers, with_owners, with_latest, with_output, with_standby, with_converting, with_shifting}
use Rattle.ads1299.specs.PowerUp.{restored}
use Rattle.ads1299.specs.Run.{after, outs}
use Rattle.planner.specs.Submission.{Submission}
use Rattle.planner.specs.Planned.{plan, planned}
use Rattle.planner.specs.Figures.{asks, fresh, command}

-- A figure by its kind.
pub data Figure : Type 0 where
  -- a state and a request; the refusal and the plan
  planning : Converter → Submission → ℕ → List ℕ → Figure
  -- a state and the bytes that come in; the state after them and the bytes that went out
  running : Converter → List ℕ → Converter → List ℕ → Figure
  -- three bytes and their code
  code : List ℕ → ℤ → Figure
  -- P, N and GPIO; the first three bytes of the frame
  head : ℕ → ℕ → ℕ → List ℕ → Figure

-- gives a figure worked out anew from what is given in it; a code both ways
abbrev pub worked_out : Figure → Figure
worked_out (planning s x refusal bytes) = planning s x (planned s x).refusal (plan s x)
worked_out (running s bytes next out) = running s bytes (after s bytes) (outs s bytes)
worked_out (code bytes z) = code (word_bytes (word_of z)) (code_of (word_at bytes 0))
worked_out (head p n gpio bytes) = head p n gpio (take 3 (frame_of (set (replicate register_count 0) GPIO gpio) [] p n))

-- gives the state with another byte in one register
abbrev pub with_register : Converter → ℕ → ℕ → Converter
with_register s address byte = with_registers s (set s.registers address byte)

-- gives eight owners, none of them the administrator
abbrev pub tenants : List ℕ
tenants = 1 ∷ 2 ∷ 3 ∷ 4 ∷ 5 ∷ 6 ∷ 7 ∷ 8 ∷ []

-- gives a state in continuous mode that differs from power-up in registers, owners, latest frame, converting and output
abbrev pub used : Converter
used =
    with_shifting
    (with_output (with_converting (with_latest (with_owners (with_register (with_register fresh CONFIG1 0xF5) CH1SET 0x00) tenants) (replicate frame_length 0x55)) true) (Some 0))
    (replicate frame_length 0xAA)

-- gives the table, in the order of document 01; the bytes for a fresh channel register as document 02, No. 2 has them
abbrev pub figures : List Figure
figures =
    planning command (asks 0 2 3 4 3) 0 (0x47 ∷ 0x00 ∷ 0x41 ∷ [])
    ∷ planning (with_standby command true) (asks 0 2 3 4 5) 0 (0x02 ∷ 0x47 ∷ 0x00 ∷ 0x41 ∷ 0x04 ∷ [])
    ∷ planning (with_standby fresh true) (asks 0 2 3 4 7) 0 (0x02 ∷ 0x11 ∷ 0x47 ∷ 0x00 ∷ 0x41 ∷ 0x10 ∷ 0x04 ∷ [])
    ∷ planning (with_standby fresh true) (asks 0 2 3 4 6) 9 []
    ∷ planning (with_register command BIAS_SENSP 0x12) (asks 0 5 3 1 3) 0 (0x4D ∷ 0x00 ∷ 0x16 ∷ [])
    ∷ running command (0x41 ∷ 0x00 ∷ 0xFF ∷ []) (with_register command CONFIG1 0xF7) (0x00 ∷ 0x00 ∷ 0x00 ∷ [])
    ∷ running used (0x45 ∷ 0x00 ∷ 0x06 ∷ []) (restored 0x3E tenants) (0xAA ∷ 0xAA ∷ 0xAA ∷ [])
    ∷ running command (0x20 ∷ 0x01 ∷ 0x00 ∷ 0x00 ∷ []) command (0x00 ∷ 0x00 ∷ 0x3E ∷ 0x96 ∷ [])
    ∷ code (0x7F ∷ 0xFF ∷ 0xFF ∷ []) (pos 8388607)
    ∷ code (0x80 ∷ 0x00 ∷ 0x00 ∷ []) (neg_ℤ (pos 8388608))
    ∷ code (0xFF ∷ 0xFF ∷ 0xFF ∷ []) (neg_ℤ (pos 1))
    ∷ head 0x01 0x80 0x0F (0xC0 ∷ 0x18 ∷ 0x00 ∷ [])
    ∷ []

-- Every figure of the table is what the definitions give.
abbrev pub FiguresHold : Type 0
FiguresHold = Hold worked_out figures
