-- A request that is written into a buffer, from its start on.
use Rattle.std.specs.Prelude.{Bool, cond, not, List, [], ◌∷◌, ℕ, ltb, length}
use Rattle.refusal.specs.Numbers.{none, bad_value, no_room}
use Rattle.refusal.specs.First.{first_of, accepted}
use Rattle.splice.specs.Splice.{spliced}
use Rattle.request.specs.declared.Request.{Request}
use Rattle.request.specs.Answers.{Written}
use Rattle.request.specs.Requests.{request_bytes, writable}

-- the refusals of a request in a buffer of so many bytes: first a number too large, then too little room
abbrev pub write_refusals : Request → ℕ → List (Bool × ℕ)
write_refusals r room = (not (writable r), bad_value) ∷ (ltb room (length (request_bytes r)), no_room) ∷ []

-- gives the refusal of a request in a buffer of so many bytes, or 0
unfoldable pub write_refusal : Request → ℕ → ℕ
write_refusal r room = first_of (write_refusals r room)

-- gives the writer's answer: the count of the bytes written, or the refusal
unfoldable pub written : Request → List ℕ → Written
written r buffer =
    cond (accepted (write_refusal r (length buffer)))
    (record { refusal = none; used = length (request_bytes r) })
    (record { refusal = write_refusal r (length buffer); used = 0 })

-- gives the buffer afterwards: the request's bytes over its start; on a refusal all as it was
unfoldable pub buffer_after : Request → List ℕ → List ℕ
buffer_after r buffer =
    cond (accepted (write_refusal r (length buffer))) (spliced buffer 0 (request_bytes r)) buffer
