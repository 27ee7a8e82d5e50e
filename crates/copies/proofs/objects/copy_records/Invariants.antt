use Rattle.std.proofs.Common.{◌≡◌, ◌-◌, ◌≤◌}
use Rattle.read_commands.specs.Checks.{IsOnlyRead}
use Rattle.copies.specs.Copies.{CopiesRecords}
use Rattle.copies.specs.ReadRecords.{IsAligned}
use Rattle.copies.specs.Stops.{StaysAlone}
use Rattle.copies.proofs.objects.copy_records.Given as goal

-- the records up to here are copied, and the old device answered
abbrev pub invariant-loop-low : goal.invariant-loop-low
invariant-loop-low g l = record {
  within : l.low ≤ l.length;
  aligned : IsAligned l.low l.length;
  reads : IsOnlyRead g.D.SectorDevice l.initial.old l.old;
  answered : g.D.SectorDevice.refused l.old ≡ g.D.SectorDevice.refused l.initial.old;
  copied : CopiesRecords g.D.SectorDevice.keeps_model (g.D.SectorDevice.disk l.initial.old) l.view l.skips 0 l.low l.is_whole l.initial.new l.new (g.W.Write.contents l.initial.out) (g.W.Write.contents l.out);
  stays : StaysAlone l.initial.new l.new;
}

abbrev pub decreases-loop-low : goal.decreases-loop-low
decreases-loop-low g l = l.length - l.low
