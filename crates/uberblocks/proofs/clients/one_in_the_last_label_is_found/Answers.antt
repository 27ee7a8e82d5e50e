use Rattle.std.proofs.Common.{List, ℕ, Option, Some, None, IsSome, IfNone, refl, arith}
use Rattle.base.specs.formats.Uberblocks.{Uberblock as Fields}
use Rattle.uberblocks.specs.declared.uberblock.Uberblock.{Uberblock}
use Rattle.uberblocks.specs.Slots.{fields_of}
use Rattle.uberblocks.specs.Rings.{HasNoneInRing, StandsInRing}
use Rattle.uberblocks.proofs.clients.one_in_the_last_label_is_found.Goals as goal

some : (ring : List ℕ) (only : Fields) (found : Option Uberblock) → IfNone found (HasNoneInRing ring) → StandsInRing ring 3 only → IsSome found
some ring only (Some u) none stands = refl
some ring only None none stands = absurd (none 3 only (omega arith) stands)

pub returns : goal.returns
returns c = some c.args.ring.now (fields_of c.args.only.now) c.active.result c.active.ensures.none c.requires.stands
