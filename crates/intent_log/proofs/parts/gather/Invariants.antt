use Rattle.std.proofs.Common.{◌≡◌, ◌+◌, ◌*◌, ◌-◌, ◌<◌, ◌≤◌, length}
use Rattle.std.specs.Prelude.{All, IsTrue}
use Rattle.base.specs.disk.Disk.{bytes_of}
use Rattle.base.specs.formats.Geometry.{IsBlockAddress}
use Rattle.intent_log.specs.Chains.{IsBlockAt, frame_of_chain, header_of_chain}
use Rattle.intent_log.proofs.GatheredParts.{IsReadTo}
use Rattle.intent_log.proofs.parts.gather.Given as goal

-- the device is as it was, and the parts so far were read up to the next place
abbrev pub invariant-loop-alloc : goal.invariant-loop-alloc
invariant-loop-alloc g l = record {
  size : g.D.SectorDevice.size l.device ≡ g.D.SectorDevice.size l.fn.device;
  disk : IsTrue g.D.SectorDevice.keeps_model → g.D.SectorDevice.disk l.device ≡ g.D.SectorDevice.disk l.fn.device;
  count : g.D.SectorDevice.refused l.device ≡ g.D.SectorDevice.refused l.fn.device;
  import_number : l.next.import_number ≡ l.header.import_number;
  version : l.next.version ≡ l.header.version;
  number : l.next.number ≡ l.header.number + length l.behind.items + 1;
  full : length l.bytes.items < l.size → length l.bytes.items ≡ 4008 * (length l.behind.items + 1);
  few : 4008 * length l.behind.items < length l.bytes.items;
  within : length l.bytes.items ≤ l.size;
  in_area : All (IsBlockAddress l.frame.blocks) l.behind.items;
  read : IsTrue g.D.SectorDevice.keeps_model → IsBlockAt (bytes_of (g.D.SectorDevice.disk l.fn.device).now) l.frame l.header l.fn.first
      → IsReadTo 4008 (bytes_of (g.D.SectorDevice.disk l.fn.device).now) (frame_of_chain l.frame l.header) l.header.import_number
      (header_of_chain l.header) l.size (header_of_chain l.next) l.bytes.items l.behind.items;
}

abbrev pub decreases-loop-alloc : goal.decreases-loop-alloc
decreases-loop-alloc g l = l.size - length l.bytes.items
