-- What a party reads of a channel from a frame (document 01, "Samples and frames"; the rail by document 02, No. 3).
use Rattle.std.specs.Prelude.{ℕ, ◌*◌, Bool, false, cond, not, List, [], ◌∷◌, ℤ, pos}
use Rattle.refusal.specs.Numbers.{none, unknown_party, wrong_channel, not_owner, bad_frame, invalid_state}
use Rattle.refusal.specs.First.{first_of, accepted}
use Rattle.ads1299_codes.specs.Words.{word_length}
use Rattle.ads1299_codes.specs.declared.Rail.{Rail}
use Rattle.ads1299_codes.specs.declared.Rail.TheVariants.{Neither}
use Rattle.ads1299_readout.specs.Reading.{is_frame, channel_bytes, code_at, rail_at, lead_off_p, lead_off_n}
use Rattle.ads1299.specs.declared.Converter.{Converter}
use Rattle.ads1299.specs.Validity.{valid}
use Rattle.readings.specs.Answers.{Reading}
use Rattle.parties.specs.Parties.{known_party}
use Rattle.parties.specs.Owners.{owns}
use Rattle.ads1299_registers.specs.Channels.{is_channel}

-- the refusals of a reading, in the order in which they are tried
abbrev pub reading_refusals : Converter → ℕ → ℕ → List ℕ → List (Bool × ℕ)
reading_refusals s party channel frame =
    (not (valid s), invalid_state)
    ∷ (not (known_party party), unknown_party)
    ∷ (not (is_channel channel), wrong_channel)
    ∷ (not (owns s.owners party channel), not_owner)
    ∷ (not (is_frame frame), bad_frame)
    ∷ []

-- gives the reading's refusal number, or 0
unfoldable pub reading_refusal : Converter → ℕ → ℕ → List ℕ → ℕ
reading_refusal s party channel frame = first_of (reading_refusals s party channel frame)

-- gives an answer from its parts
abbrev pub reading : ℕ → ℤ → Rail → Bool → Bool → Reading
reading refusal code rail p n = record { refusal = refusal; code = code; rail = rail; p = p; n = n }

-- gives the answer to a reading: the channel's code, the rail of that and the channel's bits of P and N, all from the frame; a refusal is on neither rail
unfoldable pub channel_reading : Converter → ℕ → ℕ → List ℕ → Reading
channel_reading s party channel frame =
    cond (accepted (reading_refusal s party channel frame))
    (reading none (code_at frame channel) (rail_at frame channel) (lead_off_p frame channel) (lead_off_n frame channel))
    (reading (reading_refusal s party channel frame) (pos 0) Neither false false)

-- gives the bytes of the part that the second call hands back: the channel's three, or none where the reading is refused
unfoldable pub part_bytes : Converter → ℕ → ℕ → List ℕ → List ℕ
part_bytes s party channel frame =
    cond (accepted (reading_refusal s party channel frame)) (channel_bytes frame channel) []

-- gives the place in the caller's frame where that part starts; document 01 leaves open where an empty one does, and the frame's start was chosen
unfoldable pub part_place : Converter → ℕ → ℕ → List ℕ → ℕ
part_place s party channel frame = cond (accepted (reading_refusal s party channel frame)) (word_length * channel) 0
