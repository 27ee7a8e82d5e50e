use Rattle.std.proofs.Common.{◌≡◌}
use Rattle.std.specs.Prelude.{IsTrue}
use Rattle.sha2.specs.Hashers.{Holds256}
use Rattle.object_reads.proofs.RisingObjects.{text_so_far}
use Rattle.object_reads.specs.ShownTrees.{StandsOn, shown_objects}
use Rattle.object_reads.proofs.shown_tree.ShownTree.digest.Given as goal

-- the device is as it was but for reads that it answered, and the hasher holds what the digest is of up to this number
abbrev pub invariant-loop-number : goal.invariant-loop-number
invariant-loop-number g l = record {
  device : g.B.SectorDevice.size l.reader ≡ g.B.SectorDevice.size l.fn.reader;
  disk : IsTrue g.B.SectorDevice.keeps_model → g.B.SectorDevice.disk l.reader ≡ g.B.SectorDevice.disk l.fn.reader;
  counted : g.B.SectorDevice.refused l.reader ≡ g.B.SectorDevice.refused l.fn.reader;
  text : StandsOn g.B.SectorDevice l.fn.reader l.self → Holds256 l.hasher (text_so_far l.fn.name (shown_objects l.self) l.number);
}
