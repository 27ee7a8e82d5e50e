use Rattle.std.proofs.Common.{◌∙◌, List, sym, subst}
use Rattle.std.specs.List.{list_any}
use Rattle.base.specs.declared.pointer.Pointer.{Pointer}
use Rattle.trees.specs.FreeBlocks.{BlocksTaken, names_block}
use Rattle.trees.proofs.FreeBlocks.{tree_left}
use Rattle.trees.proofs.objects.Objects.into_loaded.Goals as goal

pub returns-clause-free : goal.returns-clause-free
returns-clause-free c = λ blocks marked.
    tree_left c.args.root c.args.directories.items c.args.self.entries.items (sym c.args.directories.ok.0 ∙ c.requires) blocks c.args.free c.take_block.new.free c.take_blocks.new.free marked c.take_block.ensures
    (subst (λ (l : List Pointer). BlocksTaken (λ k. list_any (names_block k) l) c.take_block.new.free c.take_blocks.new.free) c.deref.ensures.value c.take_blocks.ensures)
