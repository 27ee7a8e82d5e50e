use Rattle.std.proofs.Common.{List, ℕ, zero, suc, ◌≡◌, ◌<◌, Option, Some, None, IfSome, sym, ◌∙◌, arith}
use Rattle.base.specs.formats.Uberblocks.{Uberblock as Fields}
use Rattle.uberblocks.specs.declared.uberblock.Uberblock.{Uberblock}
use Rattle.uberblocks.specs.Slots.{fields_of}
use Rattle.uberblocks.specs.Rings.{IsActiveInRing, StandsInRing}
use Rattle.uberblocks.proofs.clients.the_lowest_label_wins_ties.Goals as goal

at_zero : (ring : List ℕ) (u : Fields) (label : ℕ) → StandsInRing ring label u → (0 < label → ⊥) → StandsInRing ring 0 u
at_zero ring u zero stands other = stands
at_zero ring u (suc label) stands other = absurd (other (omega arith))

first : (ring : List ℕ) (lowest : Fields) (found : Option Uberblock) → IfSome found (λ u. IsActiveInRing ring (fields_of u)) → StandsInRing ring 0 lowest → lowest.group ≡ 6
    → IfSome found (λ u. u.group.0 ≡ 6 → StandsInRing ring 0 (fields_of u))
first ring lowest (Some u) active stands group =
    λ same. at_zero ring (fields_of u) active.label active.stands (λ above. active.lowest 0 lowest above stands (group ∙ sym same))
first ring lowest None active stands group = tt

pub returns : goal.returns
returns c = first c.args.ring.now (fields_of c.args.lowest.now) c.active.result c.active.ensures.active c.requires.stands c.requires.group
