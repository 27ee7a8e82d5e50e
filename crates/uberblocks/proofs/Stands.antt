-- Uberblocks in an image: there is one active one at most, and the next groups have other slots.
use Rattle.std.proofs.Common.{arith}
use Rattle.base.proofs.crash.OneMount.{one-active}
use Rattle.uberblocks.specs.Laws.{ActivesAgree, SlotsDiffer}

-- the next 127 groups have other slots
pub slots_differ : SlotsDiffer
slots_differ group later after near same = omega arith

-- an image has one active uberblock at most
pub actives_agree : ActivesAgree
actives_agree = one-active
