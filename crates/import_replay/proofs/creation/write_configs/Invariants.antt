use Rattle.std.proofs.Common.{◌≡◌, ◌≤◌, ℕ}
use Rattle.std.specs.Prelude.{IsTrue, map}
use Rattle.std.specs.List.{range_with_len}
use Rattle.base.specs.disk.Disk.{Disk, bytes_of, moments}
use Rattle.base.specs.disk.DiskCalls.{after_disk_calls}
use Rattle.import_replay.specs.Creations.{first_config}
use Rattle.import_replay.specs.Cleared.{IsCleared}
use Rattle.import_replay.specs.Labelled.{HoldConfig}
use Rattle.import_replay.specs.CreateCalls.{write_config}
use Rattle.import_replay.specs.Outside.{WritesPoolBytes}
use Rattle.labels.specs.Configs.{config_block}
use Rattle.import_replay.specs.OwnCreations.{AddsConfig, AreConfigsHanded}
use Rattle.import_replay.proofs.creation.write_configs.Given as goal

-- the device keeps its size, and refused no call; where it keeps the model, this is what its labels hold so far
abbrev pub invariant-loop-label : goal.invariant-loop-label
invariant-loop-label g l = record {
  sized : g.D.SectorDevice.size l.device ≡ l.geometry;
  size : g.D.SectorDevice.size l.device ≡ g.D.SectorDevice.size l.fn.device;
  refused : g.D.SectorDevice.refused l.device ≡ g.D.SectorDevice.refused l.fn.device;
  cleared : IsTrue g.D.SectorDevice.keeps_model → IsCleared l.geometry (bytes_of (g.D.SectorDevice.disk l.fn.device).now) → IsCleared l.geometry (bytes_of (g.D.SectorDevice.disk l.device).now);
  configs : IsTrue g.D.SectorDevice.keeps_model → HoldConfig l.geometry l.label (first_config l.fn.name l.guid l.geometry) (bytes_of (g.D.SectorDevice.disk l.device).now);
  ordered : IsTrue g.D.SectorDevice.keeps_model → g.D.SectorDevice.disk l.device ≡ after_disk_calls (map (write_config l.geometry (first_config l.fn.name l.guid l.geometry)) (range_with_len 0 l.label)) (g.D.SectorDevice.disk l.fn.device);
  outside : IsTrue g.D.SectorDevice.keeps_model → (start : Disk) → WritesPoolBytes l.geometry start (g.D.SectorDevice.disk l.fn.device) → WritesPoolBytes l.geometry start (g.D.SectorDevice.disk l.device);
  first : IsTrue g.D.SectorDevice.keeps_model → AddsConfig (config_block (first_config l.fn.name l.guid l.geometry)) (g.D.SectorDevice.disk l.fn.device) (g.D.SectorDevice.disk l.device);
  handed : IsTrue g.D.SectorDevice.keeps_model → (t : ℕ) → t ≤ moments (g.D.SectorDevice.disk l.fn.device)
      → (t ≤ moments (g.D.SectorDevice.disk l.device)) × AreConfigsHanded l.geometry l.label t (config_block (first_config l.fn.name l.guid l.geometry)) (g.D.SectorDevice.disk l.device);
}
