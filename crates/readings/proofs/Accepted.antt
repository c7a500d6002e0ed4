-- What an accepted reading has.
use Prim.Native.Nat.{ℕ}
use mathlib.Core.Path.{◌≡◌, refl}
use mathlib.Core.Bool.{true}
use mathlib.Core.List.{List}
use borrow.Author.Tests.{eqb-true, not-false}
use lib.Dec.{eqb}
use lib.ListN.{length}
use Rattle.cases.proofs.Cases.{and_both}
use Rattle.refusal.specs.Numbers.{none}
use Rattle.refusal.proofs.First.{exact}
use Rattle.ads1299_frame.specs.Frame.{frame_length, frame_mark}
use Rattle.ads1299_readout.specs.Reading.{leading_bits, is_frame}
use Rattle.ads1299.specs.declared.Converter.{Converter}
use Rattle.ads1299.specs.Validity.{valid}
use Rattle.parties.specs.Parties.{known_party}
use Rattle.parties.specs.Owners.{owns}
use Rattle.ads1299_registers.specs.Channels.{is_channel}
use Rattle.readings.specs.Reading.{reading_refusals, reading_refusal}

pub frame_whole : (frame : List ℕ) → is_frame frame ≡ true → length frame ≡ frame_length
unfolding is_frame
frame_whole frame e = eqb-true _ _ (and_both (eqb (length frame) frame_length) (eqb (leading_bits frame) frame_mark) e).0

pub record Readable (s : Converter) (party channel : ℕ) (frame : List ℕ) : Type 0 where
  pub state : valid s ≡ true
  pub party_known : known_party party ≡ true
  pub channel_known : is_channel channel ≡ true
  pub owned : owns s.owners party channel ≡ true
  pub framed : is_frame frame ≡ true

pub readable : (s : Converter) (party channel : ℕ) (frame : List ℕ) → reading_refusal s party channel frame ≡ none → Readable s party channel frame
unfolding reading_refusal
readable s party channel frame e =
    let off = (exact (reading_refusals s party channel frame) refl).refuses e in
    record {
      state = not-false _ off.0;
      party_known = not-false _ off.1.0;
      channel_known = not-false _ off.1.1.0;
      owned = not-false _ off.1.1.1.0;
      framed = not-false _ off.1.1.1.1.0;
    }
