use Rattle.std.proofs.Common.{◌≡◌, ◌++◌, All, map}
use Rattle.std.specs.Vec.Iter.{into_iter_items}
use Rattle.checked_blocks.specs.Prepared.{IsPreparedBlock, headed_bytes}
use Rattle.checked_blocks.proofs.sealing.head_all.Given as goal

-- the blocks so far and those that are left are all, and each makes a block if those that are left do
abbrev pub invariant-loop-block : goal.invariant-loop-block
invariant-loop-block l = record {
  can : goal.iterator-loop-block.can_next l.block-iterator;
  finite : goal.iterator-loop-block.is_finite l.block-iterator;
  headed : map (λ h. h.bytes.value) l.headed.items ++ map (λ p. headed_bytes l.kind l.guid l.group.0 p.number p.bytes.value) (into_iter_items l.block-iterator)
      ≡ map (λ p. headed_bytes l.kind l.guid l.group.0 p.number p.bytes.value) l.fn.blocks.items;
  block : All (IsPreparedBlock l.kind l.guid l.group.0) (into_iter_items l.block-iterator) → All (IsPreparedBlock l.kind l.guid l.group.0) l.fn.blocks.items;
}
