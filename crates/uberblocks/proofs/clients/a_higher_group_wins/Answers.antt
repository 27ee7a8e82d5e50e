use Rattle.std.proofs.Common.{List, ℕ, ◌≡◌, ◌≤◌, Option, Some, None, IfSome, arith}
use Rattle.base.specs.formats.Uberblocks.{Uberblock as Fields}
use Rattle.uberblocks.specs.declared.uberblock.Uberblock.{Uberblock}
use Rattle.uberblocks.specs.Slots.{fields_of}
use Rattle.uberblocks.specs.Rings.{IsActiveInRing, StandsInRing}
use Rattle.uberblocks.proofs.clients.a_higher_group_wins.Goals as goal

high : (ring : List ℕ) (higher : Fields) (found : Option Uberblock) → IfSome found (λ u. IsActiveInRing ring (fields_of u)) → StandsInRing ring 2 higher → higher.group ≡ 6
    → IfSome found (λ u. 6 ≤ u.group.0)
high ring higher (Some u) active stands group = omega (arith, active.highest 2 higher (omega arith) stands)
high ring higher None active stands group = tt

pub returns : goal.returns
returns c = high c.args.ring.now (fields_of c.args.higher.now) c.active.result c.active.ensures.active c.requires.stands c.requires.group
