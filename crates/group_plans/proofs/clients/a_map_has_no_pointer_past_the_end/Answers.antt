use Rattle.std.proofs.Common.{ℕ, inl, inr, subst, arith}
use Rattle.std.specs.Prelude.{IfSome, Option, unwrap_or}
use Rattle.std.specs.Global.{Vec}
use Rattle.std.proofs.lemmas.Result.{IfOk-weaker}
use Rattle.base.specs.declared.pointer.Pointer.{Pointer}
use Rattle.base.specs.tree.Places.{record_start, strip_number}
use Rattle.object_maps.specs.Cached.{BeginsInside}
use Rattle.tree_blocks.specs.TreeObjects.{objects_of}
use Rattle.tree_blocks.specs.Pointers.{pointer_of_list}
use Rattle.group_plans.specs.OldMaps.{AreMapRecords, size_in}
use Rattle.group_plans.proofs.clients.a_map_has_no_pointer_past_the_end.Goals as goal

pub returns : goal.returns
returns g c = IfOk-weaker c.read_maps.result _ _ (λ maps are m v at read.
    let records = subst (λ (o : Option (Vec Pointer)). IfSome o (λ (w : Vec Pointer). AreMapRecords c.args.frame.now.blocks (size_in (objects_of c.args.source.now.tree.now) 7) (strip_number 7 0) w.items)) read ((are 7 m at).records 0 (omega arith)) in
    elim (subst (λ (o : Option ℕ). BeginsInside (unwrap_or o 0) (record_start (strip_number 7 0) 2) (pointer_of_list v.items 2)) c.requires.length (records.inside 2 (omega arith))) [
      | inl none ↦ none
      | inr begins ↦ absurd (omega (arith, begins))
    ]) c.read_maps.ensures.maps
