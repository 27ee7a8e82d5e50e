use Rattle.std.proofs.Common.{◌∙◌}
use Rattle.tree_blocks.proofs.EntryForms.{present-at, length-at, pointer-at}
use Rattle.tree_blocks.proofs.forms.read_entry.Goals as goal

pub returns-clause-present : goal.returns-clause-present
returns-clause-present c = c.read_u64.ensures ∙ present-at c.args.payload.now c.args.index

pub returns-clause-length : goal.returns-clause-length
returns-clause-length c = c.read_u64-2.ensures ∙ length-at c.args.payload.now c.args.index

pub returns-clause-pointer : goal.returns-clause-pointer
returns-clause-pointer c = c.read_pointer.ensures ∙ pointer-at c.args.payload.now c.args.index
