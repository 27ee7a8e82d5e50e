use Rattle.std.proofs.Common.{ℕ, List, inl, refl, ◌∙◌, arith}
use Rattle.std.specs.Ordering.{nat_cmp}
use Rattle.std.specs.FinMap as finite
use Rattle.std.specs.FinMap.{FinMap}
use Rattle.base.proofs.tree.Strips.{record-count}
use Rattle.extents.specs.Tables.{patches_of}
use Rattle.object_maps_clients.proofs.SmallObjects.{laid-made, made-hides, made-there}
use Rattle.object_maps_clients.proofs.changes.reads.a_written_byte_is_laid_on.Goals as goal

pub lay_on-requires-clause-index : goal.lay_on-requires-clause-index
lay_on-requires-clause-index c = omega (arith, record-count)

pub returns : goal.returns
returns c =
    let patches = patches_of c.args.extents.now in
    let below : FinMap nat_cmp (List ℕ) = finite.empty in
    c.lay_on.ensures.bytes below (made-there patches below 7 1 (omega arith) c.requires.basis) (inl (made-hides (patches 7) 1 _ _ c.requires.basis)) 0 (omega (arith, c.lay_on.ensures.size, c.requires.size))
    ∙ laid-made patches below _ 7 1 0 9 (omega arith) refl c.requires.basis (omega arith) c.requires.written
