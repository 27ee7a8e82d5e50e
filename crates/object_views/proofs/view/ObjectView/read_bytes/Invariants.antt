use Rattle.std.proofs.Common.{ℕ, List, [], ◌≡◌, ◌+◌, ◌-◌, ◌<◌, ◌≤◌, Option, get_or, length}
use Rattle.std.specs.Prelude.{IsTrue, unwrap_or}
use Rattle.object_views.specs.ReadPaths.{IsSoundObject}
use Rattle.object_views.specs.ObjectViews.{AreCheckedBytes, AreViewBlocks, OnStored, OnView, object_of, seen_over}
use Rattle.object_views.proofs.view.ObjectView.read_bytes.Given as goal

-- the device is as it was but for reads that it answered, and the bytes up to here are read
abbrev pub invariant-loop-done : goal.invariant-loop-done
invariant-loop-done g l = record {
  before : l.done ≤ length l.into;
  size : length l.into ≡ length l.initial.into;
  device : g.D.SectorDevice.size l.device ≡ g.D.SectorDevice.size l.initial.device;
  disk : IsTrue g.D.SectorDevice.keeps_model → g.D.SectorDevice.disk l.device ≡ g.D.SectorDevice.disk l.initial.device;
  counted : g.D.SectorDevice.refused l.device ≡ g.D.SectorDevice.refused l.initial.device;
  blocks : OnStored g.D.SectorDevice.keeps_model (g.D.SectorDevice.disk l.initial.device) l.self (AreViewBlocks l.self l.blocks);
  read : OnView g.D.SectorDevice.keeps_model (g.D.SectorDevice.disk l.initial.device) l.self (λ image root. (below : Option (List ℕ)) → IsSoundObject image l.self.frame root (object_of l.self) below
      → (k : ℕ) → k < l.done → get_or l.into k 0 ≡ get_or (unwrap_or (seen_over l.self below) []) (l.low + k) 0);
  checked : OnView g.D.SectorDevice.keeps_model (g.D.SectorDevice.disk l.initial.device) l.self (λ image root. AreCheckedBytes image root l.self l.low l.done);
}

abbrev pub decreases-loop-done : goal.decreases-loop-done
decreases-loop-done g l = length l.into - l.done
