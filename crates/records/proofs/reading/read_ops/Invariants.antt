use Rattle.std.proofs.Common.{◌≡◌, ◌-◌}
use Rattle.records.specs.Reading.{ops_in}
use Rattle.records.proofs.Loop.{with_front}
use Rattle.records.proofs.reading.read_ops.Given as goal

-- what was read, with what is still read, is all that is read
abbrev pub invariant-loop : goal.invariant-loop
invariant-loop l = with_front l.ops.items (ops_in (l.count - l.counter) l.rest) ≡ ops_in l.count l.bytes
