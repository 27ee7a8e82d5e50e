use Rattle.std.proofs.Common.{◌<◌, ◌-◌, ◌/◌, arith}
use Rattle.std.proofs.lemmas.Bool.Decides.{nat_tests}
use Rattle.base.specs.formats.Geometry.{block_count}
use Rattle.checked_blocks.proofs.Addresses.{address-below, IsBlockAddress-by}
use Rattle.labels.proofs.geometry.Geometry.is_block_address.Goals as goal

pub returns-then-offset-eq0 : goal.returns-then-offset-eq0
returns-then-offset-eq0 c = (
  λ t. let below : (c.args.address - 4194304) / 4096 < block_count c.args.self = grind (arith, nat_tests) in
      IsBlockAddress-by (block_count c.args.self) c.args.address (omega arith) (omega arith) below,
  λ is.
      let below : (c.args.address - 4194304) / 4096 < block_count c.args.self = address-below (block_count c.args.self) c.args.address is in
      grind (arith, nat_tests),
)
