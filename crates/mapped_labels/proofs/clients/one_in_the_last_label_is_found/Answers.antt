use Rattle.std.proofs.Common.{List, ℕ, Option, Some, None, IsSome, IfNone, refl, arith}
use Rattle.mapped_labels.specs.MappedUberblocks.{MappedState}
use Rattle.mapped_labels.specs.declared.uberblock.MappedUberblock.{MappedUberblock}
use Rattle.mapped_labels.specs.MappedSlots.{fields_of}
use Rattle.mapped_labels.specs.MappedRings.{HasNoneInRing, StandsInRing}
use Rattle.mapped_labels.proofs.clients.one_in_the_last_label_is_found.Goals as goal

some : (ring : List ℕ) (only : MappedState) (found : Option MappedUberblock) → IfNone found (HasNoneInRing ring) → StandsInRing ring 3 only → IsSome found
some ring only (Some u) none stands = refl
some ring only None none stands = absurd (none 3 only (omega arith) stands)

pub returns : goal.returns
returns c = some c.args.ring.now (fields_of c.args.only.now) c.active.result c.active.ensures.none c.requires.stands
