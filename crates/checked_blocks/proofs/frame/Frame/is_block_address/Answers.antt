use Rattle.std.proofs.Common.{◌≡◌, ◌<◌, ◌-◌, ◌/◌, ap, arith}
use Rattle.std.proofs.lemmas.Bool.Decides.{nat_tests}
use Rattle.base.specs.formats.Blocks.{Frame}
use Rattle.checked_blocks.proofs.Addresses.{address-below, IsBlockAddress-by}
use Rattle.checked_blocks.proofs.frame.Frame.is_block_address.Goals as goal

pub returns-then-offset-eq0 : goal.returns-then-offset-eq0
returns-then-offset-eq0 c =
    let is : c.self.inside.blocks ≡ c.args.self.now.blocks = ap (λ (f : Frame). f.blocks) c.self.view_is in (
      λ t. let below : (c.args.address - 4194304) / 4096 < c.args.self.now.blocks = grind (arith, nat_tests) in
          IsBlockAddress-by c.args.self.now.blocks c.args.address (omega arith) (omega arith) below,
      λ at.
          let below : (c.args.address - 4194304) / 4096 < c.args.self.now.blocks = address-below c.args.self.now.blocks c.args.address at in
          grind (arith, nat_tests),
    )
