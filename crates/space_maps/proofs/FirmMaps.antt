-- The map of a firm view stands in each image that a crash leaves.
use Rattle.std.proofs.Common.{◌≡◌, ℕ, List, drop, length, ap, sym, subst, ◌∙◌}
use Rattle.base.specs.formats.Fields.{part}
use Rattle.base.proofs.disk.Moments.{part_stands}
use Rattle.space_maps.specs.Laws.{FirmMapsStand}
use Rattle.space_maps.specs.Opening.{IsNodeBlock}

pub firm_maps_stand : FirmMapsStand
firm_maps_stand size flushed m v image kind number pointer payload firm left told =
    let b = told.block in
    let fixed = firm.map told.index b told.found in
    let long : length b.content ≡ 4096 = told.node.sealed.size in
    let whole : part image b.address (length b.content) ≡ b.content = part_stands m image b.address (length b.content) left fixed.settled ∙ fixed.stands in
    let there : part image pointer.address 4096 ≡ b.content = ap (λ (k : ℕ). part image k 4096) told.address_is ∙ ap (λ (n : ℕ). part image b.address n) (sym long) ∙ whole in (
      record { place = told.place; block = subst (λ (l : List ℕ). IsNodeBlock l kind v.view.u.guid number pointer) (sym there) told.node },
      ap (λ (l : List ℕ). drop 64 l) there ∙ told.payload_is,
    )
