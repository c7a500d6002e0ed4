-- An answer's number is its refusal, its rail is its code's, and the two reading calls are refused together.
use Prim.Native.Nat.{ℕ}
use mathlib.Core.Path.{◌≡◌, refl, sym}
use mathlib.Core.List.{List}
use native.Mathlib.Omega.{arith}
use borrow.Author.Tests.{eqb-true}
use lib.ListN.{length, length-take, length-drop}
use Rattle.cases.proofs.Cases.{split, either}
use Rattle.refusal.specs.Numbers.{none}
use Rattle.refusal.specs.First.{accepted}
use Rattle.ads1299_codes.specs.Rails.{stands_for, rail_of}
use Rattle.ads1299_readout.specs.Reading.{channel_bytes, rail_at}
use Rattle.ads1299.specs.declared.Converter.{Converter}
use Rattle.readings.specs.Answers.{Reading}
use Rattle.readings.specs.Reading.{reading_refusal, channel_reading, part_bytes}
use Rattle.readings.specs.Claims.{ThreeOrNone, RailOfCode}
use Rattle.ads1299_registers.proofs.Bounds.{bounds}
use Rattle.readings.proofs.Accepted.{frame_whole, readable}

pub reading_number : (s : Converter) (party channel : ℕ) (frame : List ℕ) → (channel_reading s party channel frame).refusal ≡ reading_refusal s party channel frame
unfolding channel_reading
reading_number s party channel frame =
    split (accepted (reading_refusal s party channel frame)) (λ e. rw e (sym (eqb-true _ _ e))) (λ e. rw e)

pub rail_of_code : RailOfCode
unfolding stands_for rail_of rail_at channel_reading
rail_of_code s party channel frame =
    either (λ (a : Reading). a.rail ≡ rail_of a.code) (accepted (reading_refusal s party channel frame)) (λ e. refl) (λ e. refl)

part_length : (s : Converter) (party channel : ℕ) (frame : List ℕ) → reading_refusal s party channel frame ≡ none → length (channel_bytes frame channel) ≡ 3
unfolding channel_bytes
part_length s party channel frame e =
    let ok = readable s party channel frame e in
    let b = bounds channel ok.channel_known in
    let w = frame_whole frame ok.framed in
    simp (length-take, length-drop) (omega arith)

pub three_or_none : ThreeOrNone
unfolding part_bytes
three_or_none s party channel frame =
    rw (reading_number s party channel frame)
    (split (accepted (reading_refusal s party channel frame)) (λ e. rw e (part_length s party channel frame (eqb-true _ _ e))) (λ e. rw e))
