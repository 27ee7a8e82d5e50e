use Rattle.std.proofs.Common.{◌≡◌, map, take}
use Rattle.checked_blocks.proofs.sealing.messages.Given as goal

-- the messages so far are those of the first blocks
abbrev pub invariant-loop-block : goal.invariant-loop-block
invariant-loop-block l = map (λ m. m.now) l.messages.items ≡ map (λ h. h.bytes.value) (take l.block-index l.blocks)
