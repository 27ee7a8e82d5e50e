use Rattle.std.proofs.Common.{◌≡◌, ◌+◌, ◌≤◌, take}
use Rattle.std.specs.Prelude.{sum_by}
use Rattle.frames.specs.Requests.{room_of_call}
use Rattle.frames.specs.declared.request.Request.{Request}
use Rattle.frames.proofs.decode.answers_room.Given as goal

-- the room so far, which is within the limit
abbrev pub invariant-loop-request : goal.invariant-loop-request
invariant-loop-request l = (l.room ≤ 4194304) × (l.room ≡ 12 + sum_by (λ (r : Request). room_of_call r.call) (take l.request-index l.requests))
