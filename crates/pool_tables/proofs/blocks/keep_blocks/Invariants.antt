use Rattle.std.proofs.Common.{◌≡◌}
use Rattle.pool_tables.proofs.blocks.keep_blocks.Given as goal

-- the device is the one at the call but for what it keeps
abbrev pub invariant-loop-planned : goal.invariant-loop-planned
invariant-loop-planned g l =
    let size = g.B.SectorDevice.size in
    let disk = g.B.SectorDevice.disk in
    let refused = g.B.SectorDevice.refused in
    let cached = g.B.BlockReader.cached in
    (size l.device ≡ size l.fn.device) × (disk l.device ≡ disk l.fn.device) × (refused l.device ≡ refused l.fn.device) × (cached l.device ≡ cached l.fn.device)
