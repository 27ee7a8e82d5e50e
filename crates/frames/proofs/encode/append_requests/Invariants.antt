use Rattle.std.proofs.Common.{◌≡◌, ◌++◌, take}
use Rattle.std.specs.Prelude.{All}
use Rattle.frames.specs.Requests.{IsRequestAllowed, bytes_of_all}
use Rattle.frames.proofs.encode.append_requests.Given as goal

-- those so far are appended
abbrev pub invariant-loop-request : goal.invariant-loop-request
invariant-loop-request l = (l.out.items ≡ l.initial.out.items ++ bytes_of_all (take l.request-index l.requests)) × All IsRequestAllowed (take l.request-index l.requests)
