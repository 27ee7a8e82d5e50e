use Rattle.std.proofs.Common.{◌≡◌, ◌-◌}
use Rattle.frames.specs.Reading.{requests_in}
use Rattle.frames.proofs.Loop.{with_front}
use Rattle.frames.proofs.reading.read_requests.Given as goal

-- what was read, with what is still read, is all that is read
abbrev pub invariant-loop : goal.invariant-loop
invariant-loop l = with_front l.requests.items (requests_in (l.count - l.counter) l.rest) ≡ requests_in l.count l.bytes
