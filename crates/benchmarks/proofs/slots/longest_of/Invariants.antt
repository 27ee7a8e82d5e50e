use Rattle.std.proofs.Common.{◌≡◌, ◌+◌, ◌-◌, ◌*◌, ◌^◌}
use Rattle.benchmarks.proofs.slots.longest_of.Given as goal

abbrev pub invariant-loop : goal.invariant-loop
invariant-loop l = l.longest + 1 ≡ (l.slot - 16 * l.doublings + 1) * 2 ^ l.counter
