use Rattle.std.proofs.Common.{ℕ, List, ap, take}
use Rattle.object_names.specs.Slots.{slot_bytes}
use Rattle.object_names.proofs.clients.a_slot_has_the_length_and_the_name.Goals as goal

pub returns : goal.returns
unfolding slot_bytes
returns c = ap (λ (l : List ℕ). take 5 l) c.slot_of.ensures
