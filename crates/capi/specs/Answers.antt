-- What the calls answer: the answers of the entry points below with their states in flat form, and 13 where a flat form stands for
-- no state.
use Rattle.std.specs.Prelude.{ℕ, cond, List, pos, length}
use Rattle.refusal.specs.Numbers.{invalid_state}
use Rattle.ads1299_codes.specs.Rails.{rail_number}
use Rattle.ads1299_codes.specs.declared.Rail.TheVariants.{Neither}
use Rattle.request.specs.Answers.{Parsed}
use Rattle.request.specs.Answers.{Written}
use Rattle.ads1299.specs.declared.Converter.{Converter}
use Rattle.ads1299.specs.Answers.{PoweredUp}
use Rattle.ads1299.specs.Answers.{Stepped}
use Rattle.ads1299.specs.Answers.{Moved}
use Rattle.readings.specs.Answers.{Reading}
use Rattle.readings.specs.Reading.{channel_reading, part_bytes, part_place}
use Rattle.planner.specs.Answers.{Planned}
use Rattle.flat.specs.declared.FlatConverter.{FlatConverter}
use Rattle.capi.specs.declared.FlatPoweredUp.{FlatPoweredUp}
use Rattle.capi.specs.declared.FlatStepped.{FlatStepped}
use Rattle.capi.specs.declared.FlatMoved.{FlatMoved}
use Rattle.capi.specs.declared.FlatReading.{FlatReading}
use Rattle.capi.specs.declared.FlatPart.{FlatPart}
use Rattle.capi.specs.declared.FlatParsed.{FlatParsed}
use Rattle.capi.specs.declared.FlatWritten.{FlatWritten}
use Rattle.capi.specs.declared.FlatPlanned.{FlatPlanned}
use Rattle.flat.specs.Flat.{flag_code, flat}
use Rattle.flat.specs.States.{is_state}

-- gives the answer of power-up
abbrev pub flat_powered_up : PoweredUp → FlatPoweredUp
flat_powered_up a = record { refusal = a.refusal; converter = flat a.converter }

-- gives the answer to a byte
unfoldable pub stepped_from : FlatConverter → Stepped → FlatStepped
stepped_from f a =
    cond (is_state f)
    (record { refusal = a.refusal; out = a.out; next = flat a.next })
    (record { refusal = invalid_state; out = 0; next = f })

-- gives an answer that is a refusal and a state
abbrev pub flat_moved : Moved → FlatMoved
flat_moved a = record { refusal = a.refusal; next = flat a.next }

-- gives the answer to a flat form that stands for no state: the same bytes
abbrev pub rejected : FlatConverter → FlatMoved
rejected f = record { refusal = invalid_state; next = f }

-- gives the answer to a select rise, a sample or a grant
unfoldable pub moved_from : FlatConverter → Moved → FlatMoved
moved_from f a = cond (is_state f) (flat_moved a) (rejected f)

-- gives a reading with its rail by number
unfoldable pub flat_reading : Reading → FlatReading
flat_reading a = record { refusal = a.refusal; p = flag_code a.p; n = flag_code a.n; rail = rail_number a.rail; code = a.code }

-- gives a refused reading: 0 but for its number
unfoldable pub refused_reading : ℕ → FlatReading
refused_reading number = record { refusal = number; p = 0; n = 0; rail = rail_number Neither; code = pos 0 }

-- gives the answer to a reading
unfoldable pub reading_from : FlatConverter → Reading → FlatReading
reading_from f a = cond (is_state f) (flat_reading a) (refused_reading invalid_state)

-- gives the part that the second reading call hands back, as its start and length in the caller's frame; refused where a reading is
unfoldable pub channel_part : Converter → ℕ → ℕ → List ℕ → FlatPart
channel_part s party channel frame =
    record {
      refusal = (channel_reading s party channel frame).refusal;
      start = part_place s party channel frame;
      length = length (part_bytes s party channel frame);
    }

-- gives no part
abbrev pub no_part : ℕ → FlatPart
no_part number = record { refusal = number; start = 0; length = 0 }

-- gives the answer to the second reading call
unfoldable pub part_from : FlatConverter → FlatPart → FlatPart
part_from f a = cond (is_state f) a (no_part invalid_state)

-- gives the answer of the request reader
abbrev pub flat_parsed : Parsed → FlatParsed
flat_parsed a = record { refusal = a.refusal; request = a.request; used = a.used }

-- gives the answer of the request writer
abbrev pub flat_written : Written → FlatWritten
flat_written a = record { refusal = a.refusal; used = a.used }

-- gives the answer of the planner
unfoldable pub planned_from : FlatConverter → Planned → FlatPlanned
planned_from f a =
    cond (is_state f)
    (record { refusal = a.refusal; length = a.length; next = flat a.next })
    (record { refusal = invalid_state; length = 0; next = f })

-- gives the transmit buffer after a request, from what it would hold and what it held
unfoldable pub buffer_from : FlatConverter → List ℕ → List ℕ → List ℕ
buffer_from f after tx = cond (is_state f) after tx
