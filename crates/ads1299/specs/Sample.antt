-- A sample: eight codes and the two comparator bytes (document 01, "Samples and frames").
use Rattle.std.specs.Prelude.{ℕ, Bool, cond, not, ◌&&◌, List, [], ◌∷◌, eqb, ℤ, length, set}
use Rattle.refusal.specs.Numbers.{none, invalid_state, not_converting, bad_sample}
use Rattle.refusal.specs.First.{first_of, accepted}
use Rattle.ads1299_registers.specs.Addresses.{channel_count, LOFF_STATP, LOFF_STATN}
use Rattle.ads1299_codes.specs.Codes.{all_in_range}
use Rattle.ads1299_frame.specs.Frame.{frame_of}
use Rattle.ads1299.specs.declared.Converter.{Converter}
use Rattle.ads1299.specs.Answers.{Moved}
use Rattle.ads1299.specs.State.{with_registers, with_latest, moved}
use Rattle.ads1299.specs.Output.{loaded}
use Rattle.ads1299.specs.Validity.{valid}

-- the converter takes samples: it is converting and awake
abbrev pub running : Converter → Bool
running s = s.converting && not s.standby

-- one code for each channel, each in range
unfoldable pub complete : List ℤ → Bool
complete codes = eqb (length codes) channel_count && all_in_range codes

-- the refusals of a sample, in the order in which they are tried
abbrev pub sample_refusals : Converter → List ℤ → List (Bool × ℕ)
sample_refusals s codes =
    (not (valid s), invalid_state) ∷ (not (running s), not_converting) ∷ (not (complete codes), bad_sample) ∷ []

-- gives the sample's refusal number, or 0
unfoldable pub sample_refusal : Converter → List ℤ → ℕ
sample_refusal s codes = first_of (sample_refusals s codes)

-- gives the registers with P and N, which no mask keeps out
unfoldable pub with_status : List ℕ → ℕ → ℕ → List ℕ
with_status registers p n = set (set registers LOFF_STATP p) LOFF_STATN n

-- gives the state with a new frame: the latest, and in continuous mode the output from its first byte
unfoldable pub framed : Converter → List ℕ → Converter
framed s frame = cond s.continuous (loaded (with_latest s frame)) (with_latest s frame)

-- gives the state that has taken a sample
unfoldable pub taken : Converter → List ℤ → ℕ → ℕ → Converter
taken s codes p n =
    framed (with_registers s (with_status s.registers p n)) (frame_of (with_status s.registers p n) codes p n)

-- gives the answer to a sample
unfoldable pub sampled : Converter → List ℤ → ℕ → ℕ → Moved
sampled s codes p n =
    cond (accepted (sample_refusal s codes)) (moved none (taken s codes p n)) (moved (sample_refusal s codes) s)
