use Rattle.std.proofs.Common.{List, ℕ, ◌≡◌, ◌≤◌, Option, Some, None, IfSome, arith}
use Rattle.mapped_labels.specs.MappedUberblocks.{MappedState}
use Rattle.mapped_labels.specs.declared.uberblock.MappedUberblock.{MappedUberblock}
use Rattle.mapped_labels.specs.MappedSlots.{fields_of}
use Rattle.mapped_labels.specs.MappedRings.{IsActiveInRing, StandsInRing}
use Rattle.mapped_labels.proofs.clients.a_higher_group_wins.Goals as goal

high : (ring : List ℕ) (higher : MappedState) (found : Option MappedUberblock) → IfSome found (λ u. IsActiveInRing ring (fields_of u)) → StandsInRing ring 2 higher → higher.state.group ≡ 6
    → IfSome found (λ u. 6 ≤ u.state.group.0)
high ring higher (Some u) active stands group = omega (arith, active.highest 2 higher (omega arith) stands)
high ring higher None active stands group = tt

pub returns : goal.returns
returns c = high c.args.ring.now (fields_of c.args.higher.now) c.active.result c.active.ensures.active c.requires.stands c.requires.group
