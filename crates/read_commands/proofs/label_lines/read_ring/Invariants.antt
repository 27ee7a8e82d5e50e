use Rattle.std.proofs.Common.{◌≡◌, ◌<◌, ◌*◌, ℕ, IsTrue, vec_len}
use Rattle.base.specs.disk.Disk.{bytes_of}
use Rattle.base.specs.formats.Fields.{part}
use Rattle.base.specs.formats.Geometry.{slot_place}
use Rattle.read_commands.proofs.label_lines.read_ring.Given as goal

-- the device keeps its size, its disk and its count of refused calls, and the ring's parts so far are the labels'
-- arrays
abbrev pub invariant-loop-label : goal.invariant-loop-label
invariant-loop-label g l = record {
  sized : g.D.SectorDevice.size l.device ≡ l.fn.geometry;
  disk : IsTrue g.D.SectorDevice.keeps_model → g.D.SectorDevice.disk l.device ≡ g.D.SectorDevice.disk l.fn.device;
  count : g.D.SectorDevice.refused l.device ≡ g.D.SectorDevice.refused l.fn.device;
  long : vec_len l.ring ≡ 524288;
  arrays : IsTrue g.D.SectorDevice.keeps_model → (k : ℕ) → k < l.label
      → part l.ring.items (131072 * k) 131072 ≡ part (bytes_of (g.D.SectorDevice.disk l.fn.device).now) (slot_place l.fn.geometry k 0) 131072;
}
