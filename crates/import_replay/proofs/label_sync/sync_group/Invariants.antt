use Rattle.std.proofs.Common.{◌≡◌, ◌<◌, ◌-◌, IsTrue, take}
use Rattle.base.specs.disk.Disk.{bytes_of}
use Rattle.base.specs.disk.DiskCalls.{after_disk_calls}
use Rattle.sync.specs.Made.{HasMade}
use Rattle.sync.specs.Runs.{call_count}
use Rattle.import_replay.specs.ImportViews.{ForEachView}
use Rattle.import_replay.specs.LabelSyncs.{ImportWrites, IsGroupSync, calls_of_import, import_writes, is_even}
use Rattle.import_replay.proofs.LabelViews.{HasImportSince}
use Rattle.import_replay.proofs.label_sync.sync_group.Given as goal

-- the sync is one of this group and has calls left, the device keeps its size and its count of refused calls, its disk
-- is what the calls so far made of it, and each moment is one of an import
abbrev pub invariant-loop-run : goal.invariant-loop-run
invariant-loop-run g l =
    let w : ImportWrites = import_writes l.fn.geometry l.fn.name l.fn.uberblock l.fn.blocks in
    record {
      sized : g.D.SectorDevice.size l.device ≡ l.fn.geometry;
      run : IsGroupSync w l.fn.first l.run;
      left : l.run.done < call_count l.run;
      count : g.D.SectorDevice.refused l.device ≡ g.D.SectorDevice.refused l.fn.device;
      called : IsTrue g.D.SectorDevice.keeps_model
          → g.D.SectorDevice.disk l.device ≡ after_disk_calls (take l.run.done (calls_of_import w (is_even l.fn.first))) (g.D.SectorDevice.disk l.fn.device);
      views : IsTrue g.D.SectorDevice.keeps_model
          → ForEachView w l.fn.first (g.D.SectorDevice.disk l.fn.device)
          (λ created flushed at v tree. HasImportSince w created flushed at v tree l.run (g.D.SectorDevice.disk l.fn.device) (g.D.SectorDevice.disk l.device));
      made : IsTrue g.D.SectorDevice.keeps_model → HasMade (bytes_of (g.D.SectorDevice.disk l.fn.device).now) l.run (bytes_of (g.D.SectorDevice.disk l.device).now);
    }

abbrev pub decreases-loop-run : goal.decreases-loop-run
decreases-loop-run g l = call_count l.run - l.run.done
