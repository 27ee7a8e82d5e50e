use Rattle.std.proofs.Common.{◌≡◌, ◌*◌, take}
use Rattle.std.specs.Prelude.{IsTrue}
use Rattle.object_reads.specs.Digests.{Feeds}
use Rattle.tree_blocks.specs.Sources.{object_bytes}
use Rattle.object_reads.specs.ShownTrees.{ArePointerBlocksOf, StandsOn, shown_objects}
use Rattle.object_reads.proofs.shown_tree.ShownTree.feed_bytes.Given as goal

-- the device is as it was but for reads that it answered, and the records below this one are fed
abbrev pub invariant-loop-index : goal.invariant-loop-index
invariant-loop-index g l = record {
  device : g.B.SectorDevice.size l.reader ≡ g.B.SectorDevice.size l.fn.reader;
  disk : IsTrue g.B.SectorDevice.keeps_model → g.B.SectorDevice.disk l.reader ≡ g.B.SectorDevice.disk l.fn.reader;
  counted : g.B.SectorDevice.refused l.reader ≡ g.B.SectorDevice.refused l.fn.reader;
  blocks : StandsOn g.B.SectorDevice l.fn.reader l.self → ArePointerBlocksOf l.self l.id.0 l.blocks;
  fed : StandsOn g.B.SectorDevice l.fn.reader l.self → Feeds (take (4032 * l.index) (object_bytes (shown_objects l.self) l.id.0)) l.fn.hasher l.hasher;
}
