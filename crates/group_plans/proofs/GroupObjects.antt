-- What the operations of a group leave are the objects with their changes laid over them.
use Rattle.std.proofs.Common.{◌≡◌, ℕ, ◌<◌, ◌≤◌, Bool, true, false, List, length, sym, subst, ◌∙◌, refl, arith}
use Rattle.std.specs.Prelude.{Option, Some, None, IfSome}
use Rattle.std.specs.List.{list_any}
use Rattle.std.specs.Ordering.{nat_cmp}
use Rattle.std.specs.FinMap as finite
use Rattle.std.specs.FinMap.{FinMap}
use Rattle.base.specs.declared.operation.Op.{Op}
use Rattle.base.specs.formats.Limits.{max_length, object_count}
use Rattle.base.specs.history.Contents.{Contents}
use Rattle.base.specs.tree.Syncs.{is_on}
use Rattle.base.proofs.tree.RecordStates.{object-off}
use Rattle.tree_blocks.specs.declared.tree.ObjectEntry.{ObjectEntry}
use Rattle.contents.specs.ContentsShown.{contents_of}
use Rattle.tree_blocks.specs.ListedObjects.{AreWithin}
use Rattle.extents.specs.Patches.{AreNumbered}
use Rattle.extents.specs.Tables.{patches_of}
use Rattle.extents.proofs.LaidObjects.{group_is_read}
use Rattle.extents.proofs.LaidWithin.{stay_within}
use Rattle.group_plans.specs.GroupPlans.{objects_with}
use Rattle.group_plans.specs.Laws.{GroupsLeaveObjects}
use Rattle.group_plans.specs.Operations.{AreSized, TakesPlace}

-- objects within the limits have numbers and lengths within them
numbered : (objects : FinMap nat_cmp (List ℕ)) → AreWithin objects → AreNumbered objects
numbered objects within n past = by (finite.get objects n) (within n)
  where
    by : (o : Option (List ℕ)) → IfSome o (λ bytes. (n < object_count) × (length bytes ≤ max_length)) → o ≡ None
    by None h = refl
    by (Some bytes) h = let low = h.0 in absurd (omega (arith, low, past))

sized : (objects : FinMap nat_cmp (List ℕ)) → AreWithin objects → AreSized objects
sized objects within n = by (finite.get objects n) (within n)
  where
    by : (o : Option (List ℕ)) → IfSome o (λ bytes. (n < object_count) × (length bytes ≤ max_length)) → IfSome o (λ bytes. length bytes ≤ max_length)
    by None h = tt
    by (Some bytes) h = h.1

-- operations on objects in range leave no others
left_numbered : (ops : List Op) (maps : List ObjectEntry) (before after : Contents) → TakesPlace ops maps before after → AreNumbered before.objects → AreNumbered after.objects
left_numbered ops maps before after x in_range n past = by (list_any (is_on n) ops) refl
  where
    by : (b : Bool) → list_any (is_on n) ops ≡ b → finite.get after.objects n ≡ None
    by true on = let low = x.numbers n on in absurd (omega (arith, low, past))
    by false off = sym (object-off n ops before after off x.leads) ∙ in_range n past

pub groups_leave_objects : GroupsLeaveObjects
groups_leave_objects ops maps extents synced after are within x =
    let before = contents_of synced in
    let first = numbered before.objects within in
    let same : objects_with extents synced.tree ≡ after.objects = group_is_read ops (patches_of extents) before after are x.leads first (left_numbered ops maps before after x first) in
    (sym same, subst AreSized same (sized (objects_with extents synced.tree) ((stay_within extents).1 before.objects within)))
