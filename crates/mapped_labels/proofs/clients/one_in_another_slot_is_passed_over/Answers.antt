use Rattle.std.proofs.Common.{List, ℕ, Option, Some, None, IsNone, IfSome, refl}
use Rattle.mapped_labels.specs.declared.uberblock.MappedUberblock.{MappedUberblock}
use Rattle.mapped_labels.specs.MappedSlots.{fields_of}
use Rattle.mapped_labels.specs.MappedRings.{IsActiveInRing, HasNoneInRing}
use Rattle.mapped_labels.proofs.clients.one_in_another_slot_is_passed_over.Goals as goal

none : (ring : List ℕ) (found : Option MappedUberblock) → IfSome found (λ u. IsActiveInRing ring (fields_of u)) → HasNoneInRing ring → IsNone found
none ring (Some u) active empty = absurd (empty active.label (fields_of u) active.in_range active.stands)
none ring None active empty = refl

pub returns : goal.returns
returns c = none c.args.ring.now c.active.result c.active.ensures.active c.requires.none
