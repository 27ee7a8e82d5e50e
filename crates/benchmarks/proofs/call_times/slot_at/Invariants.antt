use Rattle.std.proofs.Common.{◌≡◌, ◌<◌, take}
use Rattle.std.specs.Prelude.{sum}
use Rattle.benchmarks.proofs.call_times.slot_at.Given as goal

-- the calls of the slots so far are fewer than the rank
abbrev pub invariant-loop-slot : goal.invariant-loop-slot
invariant-loop-slot l = (l.below ≡ sum (take l.slot l.counts)) × (l.below < l.rank)
