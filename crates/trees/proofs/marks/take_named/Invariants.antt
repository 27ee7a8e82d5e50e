use Rattle.std.proofs.Common.{take}
use Rattle.std.specs.List.{list_any}
use Rattle.trees.specs.FreeBlocks.{BlocksTaken, names_block}
use Rattle.tree_blocks.specs.Pointers.{payload_pointers}
use Rattle.trees.proofs.marks.take_named.Given as goal

-- the blocks that so many pointers name are taken
abbrev pub invariant-loop-index : goal.invariant-loop-index
invariant-loop-index l = BlocksTaken (λ k. list_any (names_block k) (take l.index (payload_pointers l.payload))) l.fn.free l.free
