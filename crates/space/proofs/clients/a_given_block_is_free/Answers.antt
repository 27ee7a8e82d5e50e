use Rattle.std.proofs.Common.{◌≡◌, true, ◌∙◌, ap, arith}
use Rattle.std.proofs.lemmas.Cmp.{nat_cmp_total}
use Rattle.std.specs.FinSet.{contains-insert}
use Rattle.base.specs.formats.Geometry.{block_address}
use Rattle.space.specs.FreeSets.{FreeSpace, after_give, is_free}
use Rattle.space.proofs.clients.a_given_block_is_free.Goals as goal

given : (s : FreeSpace) → is_free 3 (after_give 3 s) ≡ true
given s = contains-insert nat_cmp_total s.free (block_address 3) (block_address 3)

pub prove-unreachable-requires : goal.prove-unreachable-requires
prove-unreachable-requires c =
    let is = ap (is_free 3) (c.give.ensures.given (omega arith)) ∙ given c.args.free.now in cc
