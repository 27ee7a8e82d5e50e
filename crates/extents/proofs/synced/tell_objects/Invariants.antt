use Rattle.tree_blocks.specs.TreeObjects.{objects_of}
use Rattle.extents.specs.Patches.{laid_over}
use Rattle.extents.specs.Tables.{patches_of}
use Rattle.extents.proofs.synced.tell_objects.Given as goal

abbrev pub ghost-of : goal.ghost-of
ghost-of a = laid_over (patches_of a.x.now.0.now) (objects_of a.x.now.1.now)
