use Rattle.std.proofs.Common.{◌≡◌, map, take}
use Rattle.checked_blocks.specs.Sealing.{hashed_bytes}
use Rattle.checked_blocks.proofs.opening.hashed_all.Given as goal

-- the bytes so far are those of the first blocks
abbrev pub invariant-loop-read : goal.invariant-loop-read
invariant-loop-read l = l.bytes.items ≡ map (λ r. hashed_bytes r.block.now) (take l.read-index l.reads)
