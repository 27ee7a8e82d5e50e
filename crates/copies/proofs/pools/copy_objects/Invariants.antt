use Rattle.std.proofs.Common.{◌≡◌, ◌-◌, ◌≤◌}
use Rattle.base.specs.formats.Limits.{object_count}
use Rattle.read_commands.specs.Checks.{IsOnlyRead}
use Rattle.copies.specs.Copies.{CopiesObjects}
use Rattle.copies.specs.Stops.{StaysAlone}
use Rattle.copies.proofs.pools.copy_objects.Given as goal

-- the objects up to here are copied, and the old device answered
abbrev pub invariant-loop-number : goal.invariant-loop-number
invariant-loop-number g l = record {
  within : l.number ≤ object_count;
  reads : IsOnlyRead g.D.SectorDevice l.initial.old l.old;
  answered : g.D.SectorDevice.refused l.old ≡ g.D.SectorDevice.refused l.initial.old;
  copied : CopiesObjects g.D.SectorDevice.keeps_model (g.D.SectorDevice.disk l.initial.old) l.skips 0 l.number l.is_whole l.initial.new l.new (g.W.Write.contents l.initial.out) (g.W.Write.contents l.out);
  stays : StaysAlone l.initial.new l.new;
}

abbrev pub decreases-loop-number : goal.decreases-loop-number
decreases-loop-number g l = object_count - l.number
