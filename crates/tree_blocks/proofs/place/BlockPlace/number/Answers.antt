use Rattle.std.proofs.Common.{◌<◌, arith, subst}
use Rattle.base.specs.formats.Limits.{indirect_count, pointer_count}
use Rattle.base.specs.tree.Places.{IsPlace}
use Rattle.base.proofs.tree.Strips.{indirect-count}
use Rattle.tree_blocks.specs.declared.place.BlockPlace.{BlockPlace}
use Rattle.tree_blocks.specs.BlockPlaces.{place_of}
use Rattle.tree_blocks.proofs.place.BlockPlace.number.Goals as goal

pub overflow_mul-result : goal.overflow_mul-result
overflow_mul-result c =
    let place : (c.in-Data.number < indirect_count) × (c.in-Data.index < pointer_count) = subst (λ (p : BlockPlace). IsPlace (place_of p)) c.in-Data.is c.requires in
    let low = place.0 in
    omega (arith, low, indirect-count)

pub overflow_add-result : goal.overflow_add-result
overflow_add-result c =
    let place : (c.in-Data.number < indirect_count) × (c.in-Data.index < pointer_count) = subst (λ (p : BlockPlace). IsPlace (place_of p)) c.in-Data.is c.requires in
    let low = place.0 in
    let index_low = place.1 in
    omega (arith, low, index_low, indirect-count)
