use Rattle.std.proofs.Common.{rules, arith}
use Rattle.space.proofs.FreeLists.{free_from-0}
use Rattle.space.proofs.free_set.FreeSet.lowest.Goals as goal

pub places-init : goal.places-init
places-init c = (
  search rules,
  search rules,
  rw c.in_ok-blocks.ensures.items (free_from-0 c.args.self.now.free),
  rw c.in_ok-blocks.ensures.items (λ k d below. absurd (omega (arith, below))),
)
