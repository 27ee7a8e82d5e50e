use Rattle.std.proofs.Common.{◌≡◌, ◌-◌, ◌≤◌}
use Rattle.std.specs.Prelude.{IsTrue}
use Rattle.copies.specs.ReadRecords.{AreLost, IsAligned, OnSeen}
use Rattle.copies.proofs.old_records.lost_end.Given as goal

-- the records up to here can't be read for the damage, and the device answered
abbrev pub invariant-loop-end : goal.invariant-loop-end
invariant-loop-end g l = record {
  above : l.low ≤ l.end;
  within : l.end ≤ l.length;
  aligned : IsAligned l.end l.length;
  device : g.D.SectorDevice.size l.device ≡ g.D.SectorDevice.size l.initial.device;
  disk : IsTrue g.D.SectorDevice.keeps_model → g.D.SectorDevice.disk l.device ≡ g.D.SectorDevice.disk l.initial.device;
  counted : g.D.SectorDevice.refused l.device ≡ g.D.SectorDevice.refused l.initial.device;
  lost : OnSeen g.D.SectorDevice.keeps_model (g.D.SectorDevice.disk l.initial.device) l.view (λ image root. AreLost image root l.view l.damage l.low l.end);
}

abbrev pub decreases-loop-end : goal.decreases-loop-end
decreases-loop-end g l = l.length - l.end
