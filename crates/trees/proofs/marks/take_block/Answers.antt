use Rattle.std.proofs.Common.{◌≡◌, ◌-◌, ◌/◌, ℕ, arith}
use Rattle.base.specs.formats.Geometry.{block_address}
use Rattle.trees.proofs.FreeBlocks.{address_taken}
use Rattle.trees.proofs.marks.take_block.Goals as goal

pub returns-then-address-eq0 : goal.returns-then-address-eq0
returns-then-address-eq0 c =
    let i : ℕ = (c.args.address - 4194304) / 4096 in
    let is : block_address i ≡ c.args.address = omega (arith, c.if-address-ge-BLOCK_AREA.true, c.if-address-eq0.true) in
    rw c.take.ensures (address_taken c.args.address i c.args.free.now is)
