use Rattle.std.proofs.Common.{[], get_or}
use Rattle.std.proofs.lemmas.List.{get_or_default}
use Rattle.base.specs.declared.pointer.Pointer.{Pointer}
use Rattle.trees.specs.FreeBlocks.{names_block}
use Rattle.trees.proofs.FreeBlocks.{taken_more}
use Rattle.trees.proofs.marks.take_blocks.Goals as goal

pub loop-pointer-preserved : goal.loop-pointer-preserved
loop-pointer-preserved c =
    let i = c.loop-pointer.pointer-index in
    let past : Pointer = record { address = 0; birth = 0; check = [] } in
    let pointer : Pointer = get_or c.args.pointers.now i past in
    taken_more names_block c.args.pointers.now i pointer c.args.free.now c.loop-pointer.free c.take_block.new.free
    c.loop-pointer-test.true (get_or_default c.args.pointers.now i past pointer c.loop-pointer-test.true) c.loop-pointer.invariant c.take_block.ensures
