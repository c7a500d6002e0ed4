-- What is claimed of the planner of the list beyond its contract.
use Rattle.std.specs.Prelude.{ℕ, ◌+◌, ◌*◌, ◌<◌, true, List, [], ◌∷◌, ◌≡◌, length, take, drop}
use Rattle.refusal.specs.Numbers.{none}
use Rattle.splice.specs.Splice.{room_at}
use Rattle.ads7953.specs.declared.Ads7953.{Ads7953}
use Rattle.ads7953.specs.State.{with_ordered, with_list}
use Rattle.ads7953.specs.Scan.{next_listed}
use Rattle.ads7953.specs.Frame.{code_count}
use Rattle.ads7953.specs.Run.{Sent, sent, after, replies}
use Rattle.ads7953.specs.OutsideAuto1.{not_auto1}
use Rattle.ads7953_list.specs.Planned.{list_plan, list_plan_length, list_refusal, list_tx_after}

-- the plan lies in the buffer from the place on; every byte before and after it is as it was
pub record InPlace (s : Ads7953) (party list : ℕ) (tx : List ℕ) (at : ℕ) : Type 0 where
  pub bytes : take list_plan_length (drop at (list_tx_after s party list tx at)) ≡ list_plan list
  pub before : take at (list_tx_after s party list tx at) ≡ take at tx
  pub after : drop (at + list_plan_length) (list_tx_after s party list tx at) ≡ drop (at + list_plan_length) tx

-- the buffer keeps its length; an accepted list's plan lies in it, and a refused list leaves it as it was
pub record Placed (s : Ads7953) (party list : ℕ) (tx : List ℕ) (at : ℕ) : Type 0 where
  pub size : length (list_tx_after s party list tx at) ≡ length tx
  pub accepted : list_refusal s party list (room_at tx at) ≡ none → InPlace s party list tx at
  pub refused : (list_refusal s party list (room_at tx at) ≡ none → ⊥) → list_tx_after s party list tx at ≡ tx

-- Every list for a place of a buffer is so placed.
abbrev pub Placement : Type 0
Placement = (s : Ads7953) (party list : ℕ) (tx : List ℕ) (at : ℕ) → Placed s party list tx at

-- gives the words that bytes are sent as: two bytes a word, high byte first
abbrev pub words_in : List ℕ → List ℕ
words_in [] = []
words_in (high ∷ []) = []
words_in (high ∷ low ∷ bytes) = (high * 256 + low) ∷ words_in bytes

-- gives frames with these words and codes, as many as there are of both
abbrev pub frames_of : List ℕ → List ℕ → List Sent
frames_of [] codes = []
frames_of (w ∷ words) [] = []
frames_of (w ∷ words) (code ∷ codes) = sent w code ∷ frames_of words codes

-- gives the plan's two frames, with their codes
abbrev pub planned : ℕ → ℕ → ℕ → List Sent
planned list first second = frames_of (words_in (list_plan list)) (first ∷ second ∷ [])

-- gives 0000h twice, with the same codes
abbrev pub idled : ℕ → ℕ → List Sent
idled first second = frames_of (0 ∷ 0 ∷ []) (first ∷ second ∷ [])

-- run by the model, the plan sets the list, and leaves the replies and all else as 0000h twice would; but in auto-1 mode the channel that is
-- ordered last is the one after the first order by the new list
pub record Programs (s : Ads7953) (list first second : ℕ) : Type 0 where
  pub list_set : (after s (planned list first second)).list ≡ list
  pub same_replies : replies s (planned list first second) ≡ replies s (idled first second)
  pub same_rest : after s (planned list first second) ≡ with_ordered (with_list (after s (idled first second)) list) (after s (planned list first second)).ordered
  pub same_order : not_auto1 s.mode ≡ true → (after s (planned list first second)).ordered ≡ (after s (idled first second)).ordered
  pub auto1_order : (not_auto1 s.mode ≡ true → ⊥) → (after s (planned list first second)).ordered ≡ next_listed list (after s (frames_of (0 ∷ []) (first ∷ []))).ordered

-- Every accepted plan, sent with codes of 12 bits, does so.
abbrev pub PlanSetsList : Type 0
PlanSetsList =
    (s : Ads7953) (party list room first second : ℕ)
    → list_refusal s party list room ≡ none → list < 65536 → first < code_count → second < code_count → Programs s list first second
