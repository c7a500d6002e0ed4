-- A channel's part, accepted and refused.
use Prim.Native.Nat.{ℕ, ◌*◌}
use mathlib.Core.Path.{◌≡◌, sym, ap, ◌∙◌}
use mathlib.Core.Bool.{false}
use mathlib.Core.List.{List}
use lib.ListN.{length}
use Rattle.std.specs.Prelude.{Result, Ok, Err}
use Rattle.refusal.specs.Numbers.{none}
use Rattle.refusal.specs.First.{accepted}
use Rattle.refusal.specs.declared.Refusal.{Refusal}
use Rattle.refusal.proofs.Laws.{refused_lem}
use Rattle.ads1299.specs.declared.Converter.{Converter}
use Rattle.readings.specs.declared.Readout.{Readout}
use Rattle.readings.specs.Answers.{Reading, reading_answer}
use Rattle.readings.specs.Reading.{channel_reading, part_bytes, part_place}
use Rattle.readings.proofs.Refusals.{reading_number}
use Rattle.capi.specs.Answers.{channel_part, no_part}
use Rattle.capi.specs.Results.{located}

pub part_taken : (s : Converter) (party channel : ℕ) (frame : List ℕ) → (channel_reading s party channel frame).refusal ≡ none
    → channel_part s party channel frame ≡ record { refusal = none; start = 3 * channel; length = length (part_bytes s party channel frame) }
unfolding channel_part part_place
part_taken s party channel frame e = simp (e, sym (reading_number s party channel frame) ∙ e)

pub part_refused : (s : Converter) (party channel : ℕ) (frame : List ℕ) → accepted (channel_reading s party channel frame).refusal ≡ false
    → channel_part s party channel frame ≡ no_part (channel_reading s party channel frame).refusal
unfolding channel_part part_place part_bytes
part_refused s party channel frame e = simp (rw (reading_number s party channel frame) at e)

pub part_located : (s : Converter) (party channel : ℕ) (frame : List ℕ) (r : Result Readout Refusal) → reading_answer r ≡ channel_reading s party channel frame
    → located r channel (part_bytes s party channel frame) ≡ channel_part s party channel frame
part_located s party channel frame (Ok o) e = sym (part_taken s party channel frame (ap (λ (a : Reading). a.refusal) (sym e)))
part_located s party channel frame (Err x) e =
    let number = ap (λ (a : Reading). a.refusal) (sym e) in
    sym (part_refused s party channel frame (rw number (refused_lem x)) ∙ ap no_part number)
