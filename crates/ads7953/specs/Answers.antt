-- What a frame answers, as document 02 writes it: a refusal's number, or 0; the reply, which is 0 on a refusal; and the state after, on a
-- refusal the one that was given. For every case of what the code hands back, that answer.
use Rattle.std.specs.Prelude.{ℕ, Result, Ok, Err}
use Rattle.refusal.specs.Numbers.{none}
use Rattle.refusal.specs.declared.Refusal.{Refusal}
use Rattle.refusal.specs.Refusals.{number_of}
use Rattle.ads7953.specs.declared.Ads7953.{Ads7953}
use Rattle.ads7953.specs.declared.Exchange.{Exchange}

-- the answer to a frame
pub record Framed : Type 0 where
  pub refusal : ℕ
  pub reply : ℕ
  pub next : Ads7953

-- gives the answer to a frame in a state
abbrev pub frame_answer : Ads7953 → Result Exchange Refusal → Framed
frame_answer s (Ok exchange) = record { refusal = none; reply = exchange.reply; next = exchange.next }
frame_answer s (Err refusal) = record { refusal = number_of refusal; reply = 0; next = s }
