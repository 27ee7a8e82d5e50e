use Rattle.std.proofs.Common.{rules}
use Rattle.object_views.proofs.ZeroObjects.{none_sized, none_told}
use Rattle.object_views.proofs.zeros.ZeroObjects.new.Goals as goal

pub invariant_of-result : goal.invariant_of-result
invariant_of-result c = let items = c.in_ok-vec.ensures.items_if_clones_equal (search rules) in record {
  all_objects = c.in_ok-vec.ensures.len;
  sized = none_sized c.in_ok-vec.field-0.items c.no_objects.result.value 5292 items c.no_objects.ensures;
}

pub returns : goal.returns
returns c = none_told c.no_objects.result.value c.no_objects.ensures
