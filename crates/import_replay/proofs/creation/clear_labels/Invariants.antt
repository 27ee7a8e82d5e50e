use Rattle.std.proofs.Common.{◌≡◌}
use Rattle.std.specs.Prelude.{IsTrue, map}
use Rattle.std.specs.List.{range_with_len}
use Rattle.base.specs.disk.Disk.{Disk, bytes_of}
use Rattle.base.specs.disk.DiskCalls.{after_disk_calls}
use Rattle.import_replay.specs.Cleared.{AreTailsCleared}
use Rattle.import_replay.specs.CreateCalls.{clear_tail}
use Rattle.import_replay.specs.Outside.{WritesPoolBytes}
use Rattle.import_replay.specs.OwnCreations.{AddsZeros}
use Rattle.import_replay.proofs.creation.clear_labels.Given as goal

-- the device keeps its size, and refused no call; where it keeps the model, this is what its labels hold so far
abbrev pub invariant-loop-label : goal.invariant-loop-label
invariant-loop-label g l = record {
  sized : g.D.SectorDevice.size l.device ≡ l.geometry;
  size : g.D.SectorDevice.size l.device ≡ g.D.SectorDevice.size l.fn.device;
  refused : g.D.SectorDevice.refused l.device ≡ g.D.SectorDevice.refused l.fn.device;
  cleared : IsTrue g.D.SectorDevice.keeps_model → AreTailsCleared l.geometry l.label (bytes_of (g.D.SectorDevice.disk l.device).now);
  ordered : IsTrue g.D.SectorDevice.keeps_model → g.D.SectorDevice.disk l.device ≡ after_disk_calls (map (clear_tail l.geometry) (range_with_len 0 l.label)) (g.D.SectorDevice.disk l.fn.device);
  outside : IsTrue g.D.SectorDevice.keeps_model → (start : Disk) → WritesPoolBytes l.geometry start (g.D.SectorDevice.disk l.fn.device) → WritesPoolBytes l.geometry start (g.D.SectorDevice.disk l.device);
  first : IsTrue g.D.SectorDevice.keeps_model → AddsZeros (g.D.SectorDevice.disk l.fn.device) (g.D.SectorDevice.disk l.device);
}
