use Rattle.std.proofs.Common.{take}
use Rattle.std.specs.List.{list_any}
use Rattle.trees.specs.FreeBlocks.{BlocksTaken, names_block}
use Rattle.trees.proofs.marks.take_blocks.Given as goal

-- the blocks that the pointers so far name are taken
abbrev pub invariant-loop-pointer : goal.invariant-loop-pointer
invariant-loop-pointer l = BlocksTaken (λ k. list_any (names_block k) (take l.pointer-index l.pointers)) l.fn.free l.free
