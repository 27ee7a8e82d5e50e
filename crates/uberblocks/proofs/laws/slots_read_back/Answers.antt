use Rattle.uberblocks.proofs.SlotWrites.{IsUberblock-slot_bytes}
use Rattle.uberblocks.proofs.laws.slots_read_back.Goals as goal

pub returns : goal.returns
returns c = IsUberblock-slot_bytes
