use Rattle.std.proofs.Common.{◌≡◌, ◌++◌, length, map}
use Rattle.sha2.specs.Sha256.{sha256}
use Rattle.hash_lanes.proofs.add_by_fours.Given as goal

-- the digests so far and those of the blocks that are left are the old ones and all
abbrev pub invariant-fours : goal.invariant-fours
invariant-fours l = l.digests.items ++ map (λ b. sha256 b.now) l.left ≡ l.fn.digests.items ++ map (λ b. sha256 b.now) l.blocks

abbrev pub decreases-fours : goal.decreases-fours
decreases-fours l = length l.left
