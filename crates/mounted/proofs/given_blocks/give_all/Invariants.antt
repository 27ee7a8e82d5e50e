use Rattle.std.proofs.Common.{◌≡◌, take}
use Rattle.mounted.specs.GivenBlocks.{after_gives}
use Rattle.mounted.proofs.given_blocks.give_all.Given as goal

-- the addresses so far have come back
abbrev pub invariant-loop-address : goal.invariant-loop-address
invariant-loop-address l = l.free ≡ after_gives (take l.address-index l.addresses) l.fn.free
