use Rattle.std.proofs.Common.{◌∙◌, ap, sym}
use Rattle.std.specs.FinMap as finite
use Rattle.tree_blocks.specs.Sources.{object_length}
use Rattle.tree_blocks.specs.TreeObjects.{objects_of}
use Rattle.extents.specs.Tables.{patches_of}
use Rattle.extents.proofs.LaidObjects.{get-laid_past}
use Rattle.extents.proofs.extents.Extents.lay_into.Goals as goal

pub lay-requires-clause-lengths : goal.lay-requires-clause-lengths
lay-requires-clause-lengths c = λ n low. c.requires.lengths n low ∙ sym (ap (λ m. object_length m n) c.tell_objects-objects.ensures)

pub lay-requires-clause-numbered : goal.lay-requires-clause-numbered
lay-requires-clause-numbered c = λ n past.
    ap (λ m. finite.get m n) c.tell_objects-objects.ensures ∙ get-laid_past (patches_of c.args.self.now) (objects_of c.args.synced.now.tree) n past
