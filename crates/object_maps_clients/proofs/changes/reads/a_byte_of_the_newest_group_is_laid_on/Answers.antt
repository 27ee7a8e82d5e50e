use Rattle.std.proofs.Common.{ℕ, List, inl, refl, ◌∙◌, arith}
use Rattle.std.specs.Ordering.{nat_cmp}
use Rattle.std.specs.FinMap as finite
use Rattle.std.specs.FinMap.{FinMap}
use Rattle.base.proofs.tree.Strips.{record-count}
use Rattle.extents.specs.Patches.{laid_over}
use Rattle.unsynced_extents.specs.Unsynced.{changes_at}
use Rattle.object_maps_clients.proofs.SmallObjects.{laid-made, made-hides, made-there}
use Rattle.object_maps_clients.proofs.changes.reads.a_byte_of_the_newest_group_is_laid_on.Goals as goal

pub lay_on-requires-clause-index : goal.lay_on-requires-clause-index
lay_on-requires-clause-index c = omega (arith, record-count)

pub returns : goal.returns
returns c =
    let e = c.args.unsynced.now in
    let none : FinMap nat_cmp (List ℕ) = finite.empty in
    let below : FinMap nat_cmp (List ℕ) = laid_over (changes_at e 1) (laid_over (changes_at e 0) none) in
    c.lay_on.ensures.bytes none (made-there (changes_at e 2) below 7 1 (omega arith) c.requires.basis) (inl (inl (made-hides (changes_at e 2 7) 1 _ _ c.requires.basis))) 0 (omega (arith, c.lay_on.ensures.size, c.requires.size))
    ∙ laid-made (changes_at e 2) below _ 7 1 0 9 (omega arith) refl c.requires.basis (omega arith) c.requires.written
