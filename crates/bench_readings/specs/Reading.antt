-- What a party reads of one of the bench's 32 channels, from a frame that comes with its converter's number (document 02, No. 4).
use Rattle.std.specs.Prelude.{ℕ, Bool, false, cond, not, ◌&&◌, List, [], ◌∷◌, pos}
use Rattle.refusal.specs.Numbers.{unknown_party, wrong_channel, not_owner, bad_frame, invalid_state}
use Rattle.parties.specs.Parties.{known_party}
use Rattle.parties.specs.Owners.{owns}
use Rattle.ads1299_codes.specs.declared.Rail.TheVariants.{Neither}
use Rattle.ads1299_readout.specs.Reading.{is_frame}
use Rattle.readings.specs.Answers.{Reading}
use Rattle.readings.specs.Reading.{reading, channel_reading, part_bytes, part_place}
use Rattle.lines.specs.Lines.{is_converter, converter_of, channel_on}
use Rattle.lines.specs.Ranges.{is_bench_channel, has_channel}
use Rattle.bench.specs.declared.Bench.{Bench}
use Rattle.bench.specs.Bench.{at, valid_bench, bench_owners}

-- gives the answer to a reading of channel n from a frame of converter k: that of the converter which has the channel, where 13 does not refuse
unfoldable pub bench_reading : Bench → ℕ → ℕ → ℕ → List ℕ → Reading
bench_reading b k party n frame =
    cond (valid_bench b) (channel_reading (at b (converter_of n)) party (channel_on k n) frame) (reading invalid_state (pos 0) Neither false false)

-- gives the bytes of the part that the second call hands back
unfoldable pub bench_part_bytes : Bench → ℕ → ℕ → ℕ → List ℕ → List ℕ
bench_part_bytes b k party n frame = cond (valid_bench b) (part_bytes (at b (converter_of n)) party (channel_on k n) frame) []

-- gives the place in the caller's frame where that part starts
unfoldable pub bench_part_place : Bench → ℕ → ℕ → ℕ → List ℕ → ℕ
bench_part_place b k party n frame = cond (valid_bench b) (part_place (at b (converter_of n)) party (channel_on k n) frame) 0

-- the refusals of a reading as document 02, No. 4 words them, in the order in which they are tried
abbrev pub bench_reading_refusals : Bench → ℕ → ℕ → ℕ → List ℕ → List (Bool × ℕ)
bench_reading_refusals b k party n frame =
    (not (valid_bench b), invalid_state)
    ∷ (not (known_party party), unknown_party)
    ∷ (not (is_converter k && is_bench_channel n && has_channel k n), wrong_channel)
    ∷ (not (owns (bench_owners b) party n), not_owner)
    ∷ (not (is_frame frame), bad_frame)
    ∷ []
