use Rattle.std.proofs.Common.{◌≡◌, ◌≤◌}
use Rattle.object_reads.proofs.RisingObjects.{count_below}
use Rattle.object_reads.proofs.digests.count.Given as goal

-- the objects below this number are counted
abbrev pub invariant-loop-number : goal.invariant-loop-number
invariant-loop-number g l = record {
  counted : l.count ≡ count_below (g.O.ObjectSource.objects l.objects) l.number;
  few : l.count ≤ l.number;
}
