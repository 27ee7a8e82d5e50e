use Rattle.std.proofs.Common.{◌≡◌, ◌+◌, ◌≤◌, ◌++◌, length, map}
use Rattle.std.specs.Prelude.{vec_len, vec_capacity}
use Rattle.std.specs.Vec.Iter.{into_iter_items}
use Rattle.sha2.specs.Sha256.{sha256}
use Rattle.checked_blocks.specs.Prepared.{with_digest}
use Rattle.checked_blocks.proofs.sealing.with_digests.Given as goal

-- the digests that are left are those of the blocks that are left, for which there is room, and the blocks so far and
-- these are all
abbrev pub invariant-loop-block : goal.invariant-loop-block
invariant-loop-block l = goal.iterator-loop-block.can_next l.block-iterator × goal.iterator-loop-block.is_finite l.block-iterator
    × (into_iter_items l.digests ≡ map (λ h. sha256 h.bytes.value) (into_iter_items l.block-iterator))
    × (l.sealed.items ++ map (λ h. with_digest h.bytes.value) (into_iter_items l.block-iterator) ≡ map (λ h. with_digest h.bytes.value) l.fn.blocks.items)
    × (vec_len l.sealed + length (into_iter_items l.block-iterator) ≤ vec_capacity l.sealed)
