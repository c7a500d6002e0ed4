-- The flat form of an ADS7953's state: numbers alone, for other languages; and the way back.
use Rattle.std.specs.Prelude.{ℕ, Bool, cond, ◌&&◌, eqb, leb, Result, Ok, Err}
use Rattle.refusal.specs.declared.Refusal.{Refusal}
use Rattle.refusal.specs.declared.Refusal.TheVariants.{InvalidState}
use Rattle.flat.specs.Codes.{on}
use Rattle.flat.specs.Flat.{flag_code}
use Rattle.flat.specs.States.{is_flag}
use Rattle.ads7953.specs.declared.Mode.{Mode}
use Rattle.ads7953.specs.declared.Mode.TheVariants.{Manual, Auto1, Auto2}
use Rattle.ads7953.specs.declared.Ads7953.{Ads7953}
use Rattle.ads7953.specs.Modes.{mode_number}
use Rattle.ads7953.specs.State.{state}
use Rattle.flat_ads7953.specs.declared.FlatAds7953.{FlatAds7953}

-- gives the state's flat form
unfoldable pub flat_part : Ads7953 → FlatAds7953
flat_part s =
    record {
      list = s.list;
      mode = mode_number s.mode;
      channel = s.channel;
      ordered = s.ordered;
      last = s.last;
      range2 = flag_code s.range2;
      reset = flag_code s.reset;
      programming = flag_code s.programming;
      first = flag_code s.first;
    }

-- tells whether the four flags have codes
unfoldable pub are_flags : ℕ → ℕ → ℕ → ℕ → Bool
are_flags range2 reset programming first = is_flag range2 && (is_flag reset && (is_flag programming && is_flag first))

-- tells whether a flat form stands for a state: its mode has a number and its flags have codes; whether a part can be in that state is
-- another matter
unfoldable pub is_part : FlatAds7953 → Bool
is_part f = leb f.mode (mode_number Auto2) && are_flags f.range2 f.reset f.programming f.first

-- gives the mode of a number
abbrev pub mode_of : ℕ → Mode
mode_of number = cond (eqb number (mode_number Auto1)) Auto1 (cond (eqb number (mode_number Auto2)) Auto2 Manual)

-- gives the state that a flat form stands for; asked only where it stands for one
unfoldable pub part_of : FlatAds7953 → Ads7953
part_of f =
    state (mode_of f.mode) f.channel f.ordered f.list f.last
    (eqb f.range2 on) (eqb f.reset on) (eqb f.programming on) (eqb f.first on)

-- gives the state that a flat form stands for; where it stands for none, refusal 13
unfoldable pub part_in : FlatAds7953 → Result Ads7953 Refusal
part_in f = cond (is_part f) (Ok (part_of f)) (Err InvalidState)
