-- The auto-1 list matters in auto-1 mode alone.
use Rattle.std.specs.Prelude.{ℕ, Bool, true, false, ◌&&◌, List, [], ◌∷◌, ◌≡◌}
use Rattle.ads7953.specs.declared.Mode.{Mode}
use Rattle.ads7953.specs.declared.Mode.TheVariants.{Manual, Auto1, Auto2}
use Rattle.ads7953.specs.declared.Ads7953.{Ads7953}
use Rattle.ads7953.specs.State.{with_list}
use Rattle.ads7953.specs.Frame.{framed}
use Rattle.ads7953.specs.Run.{Sent, after, replies}

-- the mode is not auto-1
abbrev pub not_auto1 : Mode → Bool
not_auto1 Manual = true
not_auto1 Auto1 = false
not_auto1 Auto2 = true

-- some frames neither begin in auto-1 mode nor come to it
unfoldable pub outside_auto1 : Ads7953 → List Sent → Bool
outside_auto1 s [] = not_auto1 s.mode
outside_auto1 s (f ∷ frames) = not_auto1 s.mode && outside_auto1 (framed s f.word f.code).next frames

-- with another list the frames have the same replies and leave the same state, the list apart
pub record SameButList (s : Ads7953) (list : ℕ) (frames : List Sent) : Type 0 where
  pub replies : replies (with_list s list) frames ≡ replies s frames
  pub rest : after (with_list s list) frames ≡ with_list (after s frames) (after (with_list s list) frames).list

-- As long as the part is not in auto-1 mode, no reply and nothing else of its state depends on the list.
abbrev pub ListInAuto1Alone : Type 0
ListInAuto1Alone = (s : Ads7953) (list : ℕ) (frames : List Sent) → outside_auto1 s frames ≡ true → SameButList s list frames
