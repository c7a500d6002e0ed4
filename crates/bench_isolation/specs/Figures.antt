-- Worked figures: how many cells the bench has, and lists of several parties' requests over its four converters, in several orders and from
-- several benches.
use Rattle.std.specs.Prelude.{ℕ, ◌+◌, false, cond, List, [], ◌∷◌, map, get_or, Option, None, Some}
use Rattle.cases.specs.Figures.{Hold}
use Rattle.ads1299_registers.specs.Addresses.{CONFIG1, BIAS_SENSP}
use Rattle.ads1299_serial.specs.declared.Direction.TheVariants.{Read}
use Rattle.ads1299_serial.specs.declared.Phase.TheVariants.{Held}
use Rattle.ads1299_serial.specs.Transfers.{transfer}
use Rattle.ads1299.specs.declared.Converter.{Converter}
use Rattle.ads1299.specs.State.{with_owners, with_output, with_continuous, with_phase}
use Rattle.ads1299.specs.PowerUp.{powered_up}
use Rattle.ads1299_fields.specs.Names.{field_count, sum_below}
use Rattle.request.specs.Requests.{request}
use Rattle.planner.specs.Submission.{Submission}
use Rattle.isolation.specs.Figures.{on, whole, writes, writes_whole}
use Rattle.lines.specs.Lines.{last_number}
use Rattle.bench.specs.declared.Bench.{Bench}
use Rattle.bench.specs.Bench.{with_converter}
use Rattle.bench.specs.Run.{bytes_for}
use Rattle.bench_planner.specs.Fields.{bench_named}
use Rattle.bench_isolation.specs.Lists.{numbers, plans, end}

-- counts the cells: every field with every number that it is named with
abbrev pub cell_count : ℕ
cell_count = sum_below (field_count + 1) (λ f. sum_below (last_number + 1) (λ n. cond (bench_named f n) 1 0))

-- how many cells the bench has; or a list of requests from a bench, with the numbers, the plans, and of each converter a register and the
-- output at the end
pub data Figure : Type 0 where
  counted : ℕ → Figure
  listed : Bench → List Submission → List ℕ → List (List (ℕ × ℕ)) → ℕ → List ℕ → List (Option ℕ) → Figure

-- gives a figure worked out anew
abbrev pub worked_out : Figure → Figure
worked_out (counted count) = counted cell_count
worked_out (listed b l answers bytes register values outputs) =
    listed b l (numbers b l) (plans b l) register
    (map (λ (c : Converter). get_or c.registers register 0) (end b l).converters) (map (λ (c : Converter). c.output) (end b l).converters)

-- gives four of something, one for each converter
abbrev pub four : {A : Type 0} → A → A → A → A → List A
four a b c d = a ∷ b ∷ c ∷ d ∷ []

-- gives a party's request for field 12 (data rate) of the converter that a number names, with room for five bytes
abbrev pub rate : ℕ → ℕ → ℕ → Submission
rate party number value = record { party = party; request = request 12 number (value ∷ []); room = 5 }

-- gives a fresh converter with output pending, and these owners
abbrev pub pending : List ℕ → Converter
pending owners = with_output (with_owners (powered_up 0x3E).converter owners) (Some 3)

-- gives a bench of these, the last in command mode: channels 1, 9 and 10 are party 1's, channels 2, 11 and 32 party 2's
abbrev pub shared : Bench
shared =
    record {
      converters = four
          (pending (1 ∷ 2 ∷ 0 ∷ 0 ∷ 0 ∷ 0 ∷ 0 ∷ 0 ∷ []))
          (pending (1 ∷ 1 ∷ 2 ∷ 0 ∷ 0 ∷ 0 ∷ 0 ∷ 0 ∷ []))
          (pending (0 ∷ 0 ∷ 0 ∷ 0 ∷ 0 ∷ 0 ∷ 0 ∷ 0 ∷ []))
          (with_continuous (pending (0 ∷ 0 ∷ 0 ∷ 0 ∷ 0 ∷ 0 ∷ 0 ∷ 2 ∷ [])) false);
    }

-- gives that bench with channel 32 owned by no party
abbrev pub invalid : Bench
invalid = with_converter shared 3 (with_continuous (pending (0 ∷ 0 ∷ 0 ∷ 0 ∷ 0 ∷ 0 ∷ 0 ∷ 9 ∷ [])) false)

-- gives that bench with converter 2 in command mode, half through a read
abbrev pub halfway : Bench
halfway =
    with_converter shared 2
    (with_phase (with_continuous (with_output (pending (0 ∷ 0 ∷ 0 ∷ 0 ∷ 0 ∷ 0 ∷ 0 ∷ 0 ∷ [])) None) false) (Held (transfer Read BIAS_SENSP 0)))

-- gives the plan in continuous mode with a data byte for CONFIG1
abbrev pub writes_rate : ℕ → List ℕ
writes_rate byte = 0x11 ∷ 0x41 ∷ 0x00 ∷ byte ∷ 0x10 ∷ []

-- gives converter 3's plan in command mode for BIASPn of channel 32, whose bit is the last
abbrev pub last_bit : List (ℕ × ℕ)
last_bit = (3, 0x4D) ∷ (3, 0x00) ∷ (3, 0x80) ∷ []

-- gives its plan for the whole of channel 32
abbrev pub last_whole : List (ℕ × ℕ)
last_whole = bytes_for 3 (0x4C ∷ 0x00 ∷ 0x60 ∷ 0x4D ∷ 0x04 ∷ 0x80 ∷ 0x00 ∷ 0x00 ∷ 0x00 ∷ 0x80 ∷ [])

-- gives the table: nine fields of each of 32 channels and 17 of each converter, which is four times 89; two merges of the same lists; two of
-- lists with whole channels; shared fields; room, by the named converter's modes; converter 2 half through a command, which refuses its own
-- requests alone; and a converter that 13 refuses, which refuses all
abbrev pub figures : List Figure
figures =
    counted 356
    ∷ listed shared (on 1 1 5 ∷ on 2 2 5 ∷ on 1 9 5 ∷ on 1 11 5 ∷ on 2 11 5 ∷ on 1 10 5 ∷ on 2 32 5 ∷ [])
    (0 ∷ 0 ∷ 0 ∷ 6 ∷ 0 ∷ 0 ∷ 0 ∷ [])
    (bytes_for 0 (writes 0x01) ∷ bytes_for 0 (writes 0x03) ∷ bytes_for 1 (writes 0x01) ∷ [] ∷ bytes_for 1 (writes 0x05) ∷ bytes_for 1 (writes 0x07) ∷ last_bit ∷ [])
    BIAS_SENSP (four 0x03 0x07 0x00 0x80) (four None None (Some 3) None)
    ∷ listed shared (on 2 2 5 ∷ on 2 11 5 ∷ on 1 1 5 ∷ on 2 32 5 ∷ on 1 9 5 ∷ on 1 11 5 ∷ on 1 10 5 ∷ [])
    (0 ∷ 0 ∷ 0 ∷ 0 ∷ 0 ∷ 6 ∷ 0 ∷ [])
    (bytes_for 0 (writes 0x02) ∷ bytes_for 1 (writes 0x04) ∷ bytes_for 0 (writes 0x03) ∷ last_bit ∷ bytes_for 1 (writes 0x05) ∷ [] ∷ bytes_for 1 (writes 0x07) ∷ [])
    BIAS_SENSP (four 0x03 0x07 0x00 0x80) (four None None (Some 3) None)
    ∷ listed shared (on 1 9 5 ∷ whole 2 11 12 ∷ whole 1 11 12 ∷ whole 1 10 11 ∷ whole 2 32 10 ∷ [])
    (0 ∷ 0 ∷ 6 ∷ 9 ∷ 0 ∷ [])
    (bytes_for 1 (writes 0x01) ∷ bytes_for 1 (writes_whole 0x47 0x05 0x04) ∷ [] ∷ [] ∷ last_whole ∷ [])
    BIAS_SENSP (four 0x00 0x05 0x00 0x80) (four (Some 3) None (Some 3) None)
    ∷ listed shared (whole 2 11 12 ∷ whole 2 32 10 ∷ on 1 9 5 ∷ whole 1 11 12 ∷ whole 1 10 11 ∷ [])
    (0 ∷ 0 ∷ 0 ∷ 6 ∷ 9 ∷ [])
    (bytes_for 1 (writes_whole 0x47 0x04 0x04) ∷ last_whole ∷ bytes_for 1 (writes 0x05) ∷ [] ∷ [] ∷ [])
    BIAS_SENSP (four 0x00 0x05 0x00 0x80) (four (Some 3) None (Some 3) None)
    ∷ listed shared (rate 0 33 5 ∷ rate 1 33 5 ∷ rate 0 9 5 ∷ on 1 33 5 ∷ rate 0 36 5 ∷ rate 0 35 7 ∷ rate 0 0 4 ∷ [])
    (0 ∷ 6 ∷ 5 ∷ 5 ∷ 5 ∷ 7 ∷ 0 ∷ [])
    (bytes_for 1 (writes_rate 0x95) ∷ [] ∷ [] ∷ [] ∷ [] ∷ [] ∷ bytes_for 0 (writes_rate 0x94) ∷ [])
    CONFIG1 (four 0x94 0x95 0x96 0x96) (four None None (Some 3) (Some 3))
    ∷ listed shared (on 9 1 5 ∷ on 2 11 4 ∷ on 2 32 3 ∷ []) (3 ∷ 9 ∷ 0 ∷ []) ([] ∷ [] ∷ last_bit ∷ [])
    BIAS_SENSP (four 0x00 0x00 0x00 0x80) (four (Some 3) (Some 3) (Some 3) None)
    ∷ listed halfway (on 0 17 5 ∷ on 1 1 5 ∷ rate 0 34 5 ∷ on 1 17 5 ∷ on 2 11 5 ∷ on 0 24 0 ∷ [])
    (8 ∷ 0 ∷ 8 ∷ 6 ∷ 0 ∷ 8 ∷ []) ([] ∷ bytes_for 0 (writes 0x01) ∷ [] ∷ [] ∷ bytes_for 1 (writes 0x04) ∷ [] ∷ [])
    BIAS_SENSP (four 0x01 0x04 0x00 0x00) (four None None None (Some 3))
    ∷ listed invalid (on 1 1 5 ∷ on 9 1 5 ∷ on 2 11 5 ∷ rate 0 36 5 ∷ []) (13 ∷ 13 ∷ 13 ∷ 13 ∷ []) ([] ∷ [] ∷ [] ∷ [] ∷ [])
    BIAS_SENSP (four 0x00 0x00 0x00 0x00) (four (Some 3) (Some 3) (Some 3) (Some 3))
    ∷ []

-- Every figure of the table is what the definitions give.
abbrev pub FiguresHold : Type 0
FiguresHold = Hold worked_out figures
