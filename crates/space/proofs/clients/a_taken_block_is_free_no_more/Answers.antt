use Rattle.std.proofs.Common.{◌≡◌, false, ◌∙◌, ap}
use Rattle.std.proofs.lemmas.Cmp.{nat_cmp_total}
use Rattle.std.specs.FinSet.{contains-remove}
use Rattle.base.specs.formats.Geometry.{block_address}
use Rattle.space.specs.FreeSets.{FreeSpace, after_take, is_free}
use Rattle.space.proofs.clients.a_taken_block_is_free_no_more.Goals as goal

taken : (s : FreeSpace) → is_free 3 (after_take 3 s) ≡ false
taken s = contains-remove nat_cmp_total s.free (block_address 3) (block_address 3)

pub prove-unreachable-requires : goal.prove-unreachable-requires
prove-unreachable-requires c = let is = ap (is_free 3) c.take.ensures ∙ taken c.args.free.now in cc
