use Rattle.std.proofs.Common.{◌≡◌, ◌++◌, Bool, List, length, map}
use Rattle.std.specs.Vec.Iter.{into_iter_items}
use Rattle.sha2.specs.Sha256.{sha256}
use Rattle.checked_blocks.specs.Judged.{AreJudged}
use Rattle.checked_blocks.specs.Sealing.{hashed_bytes}
use Rattle.checked_blocks.proofs.opening.judge_all.Given as goal

-- the digests that are left are those of the blocks that are left, and what is found of these goes on from what was
-- found
abbrev pub invariant-loop-left : goal.invariant-loop-left
invariant-loop-left l = (into_iter_items l.digests ≡ map (λ r. sha256 (hashed_bytes r.block.now)) l.left)
    × ((rest : List Bool) → AreJudged l.left rest → AreJudged l.reads (l.found.items ++ rest))

abbrev pub decreases-loop-left : goal.decreases-loop-left
decreases-loop-left l = length l.left
