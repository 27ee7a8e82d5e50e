use Rattle.std.proofs.Common.{◌∙◌}
use Rattle.tree_blocks.specs.TreeObjects.{objects_of}
use Rattle.extents.specs.Tables.{patches_of}
use Rattle.extents.proofs.LaidObjects.{get-laid_past}
use Rattle.group_plans.specs.GroupPlans.{objects_with}
use Rattle.group_plans.specs.Prepared.{at_hand}
use Rattle.group_plans.proofs.RecordsAtHand.{same_length}
use Rattle.group_plans.proofs.sealed_objects.SealedObjectsObjectSource.length.Goals as goal

pub returns : goal.returns
returns c =
    let s = c.args.self.now.prepared.now in
    rw c.new.ensures at c.length.ensures ∙ same_length (at_hand s.records) (objects_with s.extents.now s.tree.now) (λ n past. get-laid_past (patches_of s.extents.now) (objects_of s.tree.now) n past) c.args.id.0
