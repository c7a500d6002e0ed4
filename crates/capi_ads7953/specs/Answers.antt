-- What the calls answer: the answers of the entry points below with the state in flat form, and 13 where a flat form stands for no state.
use Rattle.std.specs.Prelude.{ℕ, cond, List, Result, Ok, Err}
use Rattle.refusal.specs.Numbers.{none, invalid_state}
use Rattle.refusal.specs.declared.Refusal.{Refusal}
use Rattle.refusal.specs.Refusals.{number_of}
use Rattle.ads7953.specs.declared.Exchange.{Exchange}
use Rattle.ads7953.specs.Answers.{Framed}
use Rattle.ads7953_list.specs.Answers.{ListPlanned}
use Rattle.flat_ads7953.specs.declared.FlatAds7953.{FlatAds7953}
use Rattle.flat_ads7953.specs.Flat.{flat_part, is_part}
use Rattle.capi_ads7953.specs.declared.FlatFramed.{FlatFramed}
use Rattle.capi_ads7953.specs.declared.FlatListPlanned.{FlatListPlanned}

-- gives the answer to a frame
unfoldable pub framed_from : FlatAds7953 → Framed → FlatFramed
framed_from f a =
    cond (is_part f)
    (record { refusal = a.refusal; reply = a.reply; next = flat_part a.next })
    (record { refusal = invalid_state; reply = 0; next = f })

-- gives the answer to a list
unfoldable pub list_planned_from : FlatAds7953 → ListPlanned → FlatListPlanned
list_planned_from f a = cond (is_part f) (record { refusal = a.refusal; length = a.length }) (record { refusal = invalid_state; length = 0 })

-- gives the transmit buffer after a list, from what it would hold and what it held
unfoldable pub list_buffer_from : FlatAds7953 → List ℕ → List ℕ → List ℕ
list_buffer_from f after tx = cond (is_part f) after tx

-- gives the answer to a frame, for every case of what the code hands back: on a refusal the bytes that were given
abbrev pub flat_frame_answer : FlatAds7953 → Result Exchange Refusal → FlatFramed
flat_frame_answer f (Ok exchange) = record { refusal = none; reply = exchange.reply; next = flat_part exchange.next }
flat_frame_answer f (Err refusal) = record { refusal = number_of refusal; reply = 0; next = f }

-- gives the answer to a list, likewise
abbrev pub flat_list_answer : Result ℕ Refusal → FlatListPlanned
flat_list_answer (Ok length) = record { refusal = none; length = length }
flat_list_answer (Err refusal) = record { refusal = number_of refusal; length = 0 }
