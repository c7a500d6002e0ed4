-- Power-up, and a frame: a word in, a reply out (document 02, No. 6; document 001).
use Rattle.std.specs.Prelude.{ℕ, ◌+◌, ◌*◌, Bool, true, false, cond, not, ◌&&◌, List, [], ◌∷◌, ltb, leb}
use Rattle.refusal.specs.Numbers.{none, bad_sample, invalid_state}
use Rattle.refusal.specs.First.{first_of, accepted}
use Rattle.ads7953.specs.declared.Mode.TheVariants.{Manual}
use Rattle.ads7953.specs.declared.Ads7953.{Ads7953}
use Rattle.ads7953.specs.Answers.{Framed}
use Rattle.ads7953.specs.State.{state, with_channel, with_first}
use Rattle.ads7953.specs.Scan.{channel_count}
use Rattle.ads7953.specs.Latch.{latched}

-- the list at power-up: every channel
abbrev pub power_up_list : ℕ
power_up_list = 0xFFFF

-- the last channel of auto-2 at power-up
abbrev pub power_up_last : ℕ
power_up_last = 15

-- gives the state at power-up: manual mode on channel 0
unfoldable pub powered_up : Ads7953
powered_up = state Manual 0 0 power_up_list power_up_last false false false true

-- refusal 13 does not apply: every channel of the state has four bits; all else of a state fits its bits by itself
unfoldable pub valid : Ads7953 → Bool
valid s = ltb s.channel channel_count && (ltb s.ordered channel_count && ltb s.last channel_count)

-- the codes are 12 bits wide
abbrev pub code_count : ℕ
code_count = 4096

-- the refusals of a frame, in the order in which they are tried
abbrev pub frame_refusals : Ads7953 → ℕ → List (Bool × ℕ)
frame_refusals s code = (not (valid s), invalid_state) ∷ (leb code_count code, bad_sample) ∷ []

-- gives the frame's refusal number, or 0
unfoldable pub frame_refusal : Ads7953 → ℕ → ℕ
frame_refusal s code = first_of (frame_refusals s code)

-- gives a reply's word: the channel in its top four bits, the code below
abbrev pub replied : ℕ → ℕ → ℕ
replied channel code = channel * code_count + code

-- gives the frame's reply: the channel that the multiplexer had at its start, with its code; the first since power-up is left open, and so 0
unfoldable pub reply : Ads7953 → ℕ → ℕ
reply s code = cond s.first 0 (replied s.channel code)

-- gives the state whose multiplexer has taken the channel that the word of the frame before ordered
unfoldable pub selected : Ads7953 → Ads7953
selected s = with_first (with_channel s s.ordered) false

-- gives the state after a frame: the multiplexer takes the order of the frame before, then this frame's word is latched
unfoldable pub followed : Ads7953 → ℕ → Ads7953
followed s w = latched (selected s) w

-- gives the answer to a frame
unfoldable pub framed : Ads7953 → ℕ → ℕ → Framed
framed s w code =
    cond (accepted (frame_refusal s code))
    (record { refusal = none; reply = reply s code; next = followed s w })
    (record { refusal = frame_refusal s code; reply = 0; next = s })
