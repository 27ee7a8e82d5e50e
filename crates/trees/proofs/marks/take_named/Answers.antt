use Rattle.std.proofs.Common.{◌<◌, ◌≤◌, ℕ, List, length, sym, subst, arith}
use Rattle.std.specs.List.{list_any}
use Rattle.std.proofs.lemmas.List.{take_all}
use Rattle.base.specs.declared.pointer.Pointer.{Pointer}
use Rattle.trees.specs.FreeBlocks.{BlocksTaken, names_block}
use Rattle.tree_blocks.specs.Pointers.{payload_pointers}
use Rattle.trees.proofs.FreeBlocks.{taken_more}
use Rattle.tree_blocks.proofs.ToldStrips.{length-pointers, pointer-read}
use Rattle.trees.proofs.marks.take_named.Goals as goal

pub loop-index-preserved : goal.loop-index-preserved
loop-index-preserved c =
    let i : ℕ = c.loop-index.index in
    let pointers : List Pointer = payload_pointers c.args.payload.now in
    let within : i < length pointers = subst (λ (n : ℕ). i < n) (sym (length-pointers c.args.payload.now)) c.loop-index-test.true in
    taken_more names_block pointers i c.pointer_in-pointer.result c.args.free.now c.loop-index.free c.take_block.new.free within
    (pointer-read c.args.payload.now i c.pointer_in-pointer.result c.loop-index-test.true c.pointer_in-pointer.ensures) c.loop-index.invariant c.take_block.ensures

pub returns : goal.returns
returns c =
    let pointers : List Pointer = payload_pointers c.args.payload.now in
    let most : length pointers ≤ c.loop-index.index = omega (arith, length-pointers c.args.payload.now, c.loop-index-test.false) in
    subst (λ (l : List Pointer). BlocksTaken (λ k. list_any (names_block k) l) c.args.free.now c.loop-index.free) (take_all c.loop-index.index pointers most) c.loop-index.invariant
