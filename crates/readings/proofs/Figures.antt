-- The figures hold, by computation.
use mathlib.Core.Path.{refl}
use Rattle.bits.specs.Fields.{field, bit}
use Rattle.ads1299_codes.specs.Codes.{in_range, all_in_range, word_of, code_of}
use Rattle.ads1299_codes.specs.Words.{word, word_bytes, word_at, joined}
use Rattle.ads1299_codes.specs.Rails.{stands_for, rail_of}
use Rattle.ads1299_frame.specs.Frame.{status_word, powered_down, shown, frame_word, frame_of}
use Rattle.ads1299_readout.specs.Reading.{leading_bits, is_frame, channel_bytes, code_at, rail_at, status_p, status_n, lead_off_p, lead_off_n}
use Rattle.ads1299_registers.specs.Table.{power_up}
use Rattle.ads1299.specs.PowerUp.{valid_id, restored, powered_up}
use Rattle.ads1299.specs.Validity.{valid_converter, valid}
use Rattle.ads1299.specs.Output.{loaded}
use Rattle.ads1299.specs.Sample.{complete, sample_refusal, with_status, framed, taken, sampled}
use Rattle.parties.specs.Parties.{known_party}
use Rattle.parties.specs.Owners.{owner_of, owns}
use Rattle.readings.specs.Reading.{reading_refusal, channel_reading, part_bytes}
use Rattle.readings.specs.Figures.{FiguresHold}

pub figures_hold : FiguresHold
unfolding field bit in_range all_in_range word_of code_of word word_bytes word_at joined stands_for rail_of status_word powered_down shown frame_word frame_of leading_bits is_frame channel_bytes code_at rail_at status_p status_n lead_off_p lead_off_n power_up valid_id restored powered_up valid_converter valid loaded complete sample_refusal with_status framed taken sampled known_party owner_of owns reading_refusal channel_reading part_bytes
figures_hold = refl
