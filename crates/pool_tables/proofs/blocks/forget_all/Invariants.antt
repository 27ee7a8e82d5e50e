use Rattle.std.proofs.Common.{◌≡◌, take}
use Rattle.pool_tables.specs.Forgotten.{HasNoneOf}
use Rattle.pool_tables.proofs.blocks.forget_all.Given as goal

-- the device is the one at the call, and no read takes the blocks so far from memory
abbrev pub invariant-loop-address : goal.invariant-loop-address
invariant-loop-address g l =
    let size = g.B.SectorDevice.size in
    let disk = g.B.SectorDevice.disk in
    let refused = g.B.SectorDevice.refused in
    let cached = g.B.BlockReader.cached in
    (size l.device ≡ size l.fn.device) × (disk l.device ≡ disk l.fn.device) × (refused l.device ≡ refused l.fn.device)
    × HasNoneOf (take l.address-index l.addresses) (cached l.device)
