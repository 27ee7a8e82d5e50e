use Rattle.std.proofs.Common.{◌≡◌, ◌∙◌, Bool, true, false, not, ◌&&◌, Option, Some, None, is_some, refl, ap, arith, sym}
use Rattle.std.specs.Global.{Vec}
use Rattle.std.proofs.lemmas.Bool.{true≢false}
use Rattle.std.proofs.lemmas.Result.{IfOk-weaker}
use Rattle.base.specs.declared.pointer.Pointer.{Pointer}
use Rattle.tree_plans.specs.declared.changes.ObjectChanges.{ObjectChanges}
use Rattle.tree_blocks.specs.declared.object_map.ObjectMap.{ObjectMap}
use Rattle.tree_plans.specs.Changes.{is_strip_touched}
use Rattle.tree_plans.specs.Plans.{is_strip_replaced}
use Rattle.tree_blocks.specs.ReadPointers.{records_among}
use Rattle.group_plans.specs.OldMaps.{IsReadFor}
use Rattle.group_plans.proofs.clients.an_untouched_strip_of_a_long_object_is_in_no_map.Goals as goal

-- what was read only if it is looked at, was not read if it isn't
not_read : (is_long : Bool) (changes : ObjectChanges) (m : ObjectMap) → IsReadFor is_long changes m → is_long ≡ true → is_strip_touched changes 1 ≡ false → records_among m.strips.entries 1 ≡ None
not_read is_long changes m read long untouched = by (records_among m.strips.entries 1) refl
  where
    kept : is_strip_replaced is_long changes 1 ≡ false
    kept = (λ x. not (long x && not (untouched x)))

    by : (o : Option (Vec Pointer)) → records_among m.strips.entries 1 ≡ o → o ≡ None
    by None at = refl
    by (Some v) at = absurd (true≢false (sym (read.only 1 (ap is_some at)) ∙ kept))

pub returns : goal.returns
returns g c = IfOk-weaker c.read_maps.result _ _ (λ maps read m changes there untouched at.
    let h = read 7 changes (omega arith) there in
    let same : h.map ≡ m = (let both : Some h.map ≡ Some m = sym h.map_is ∙ at in cc) in
    ap (λ (n : ObjectMap). records_among n.strips.entries 1) (sym same) ∙ not_read _ changes h.map h.read c.requires.long untouched) c.read_maps.ensures.read
