use Rattle.std.proofs.Common.{◌≡◌, map, take}
use Rattle.checked_blocks.proofs.opening.messages.Given as goal

-- the messages so far are the first blocks
abbrev pub invariant-loop-block : goal.invariant-loop-block
invariant-loop-block l = map (λ m. m.now) l.messages.items ≡ take l.block-index l.blocks
