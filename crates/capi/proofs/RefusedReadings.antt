-- A refused reading tells its number alone: what demand 1 says of it, through the flat form.
use mathlib.Core.Path.{refl}
use Rattle.cases.proofs.Cases.{split}
use Rattle.demand1.proofs.Demand1.{demand1, kept_by}
use Rattle.flat.specs.States.{is_state, state_of}
use Rattle.capi.specs.Answers.{flat_reading, refused_reading, reading_from}
use Rattle.capi.specs.Claims.{RefusedReadings}

pub refused_readings : RefusedReadings
unfolding reading_from flat_reading refused_reading
refused_readings f party channel frame =
    split (is_state f)
    (λ v. rw v (λ e. let kept = kept_by (demand1.read_channel (state_of f) party channel frame) e in rw kept))
    (λ v. rw v (λ e. refl))
