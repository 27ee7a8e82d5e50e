use Rattle.std.proofs.Common.{ℕ, ◌≡◌, ◌+◌, ◌-◌, ◌<◌, ◌≤◌, get_or, length}
use Rattle.std.specs.Prelude.{IsTrue}
use Rattle.tree_blocks.specs.Sources.{object_bytes}
use Rattle.object_reads.specs.ShownTrees.{ArePointerBlocksOf, StandsOn, shown_objects}
use Rattle.object_reads.proofs.shown_tree.ShownTree.read_bytes.Given as goal

-- the device is as it was but for reads that it answered, and the bytes up to here are read
abbrev pub invariant-loop-done : goal.invariant-loop-done
invariant-loop-done g l = record {
  before : l.done ≤ length l.into;
  size : length l.into ≡ length l.initial.into;
  device : g.B.SectorDevice.size l.reader ≡ g.B.SectorDevice.size l.initial.reader;
  disk : IsTrue g.B.SectorDevice.keeps_model → g.B.SectorDevice.disk l.reader ≡ g.B.SectorDevice.disk l.initial.reader;
  counted : g.B.SectorDevice.refused l.reader ≡ g.B.SectorDevice.refused l.initial.reader;
  blocks : StandsOn g.B.SectorDevice l.initial.reader l.self → ArePointerBlocksOf l.self l.id.0 l.blocks;
  read : StandsOn g.B.SectorDevice l.initial.reader l.self → (k : ℕ) → k < l.done → get_or l.into k 0 ≡ get_or (object_bytes (shown_objects l.self) l.id.0) (l.low + k) 0;
}

abbrev pub decreases-loop-done : goal.decreases-loop-done
decreases-loop-done g l = length l.into - l.done
