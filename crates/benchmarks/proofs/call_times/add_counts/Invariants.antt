use Rattle.std.proofs.Common.{◌≡◌, ◌+◌, ℕ, get_or, take}
use Rattle.std.specs.Prelude.{sum}
use Rattle.benchmarks.proofs.call_times.add_counts.Given as goal

-- the counts of the slots so far are added
abbrev pub invariant-loop-slot : goal.invariant-loop-slot
invariant-loop-slot l = record {
  sum : sum l.counts ≡ sum l.fn.counts + sum (take l.slot l.others);
  each : (k : ℕ) → get_or l.counts k 0 ≡ get_or l.fn.counts k 0 + get_or (take l.slot l.others) k 0;
}
