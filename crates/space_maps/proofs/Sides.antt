-- The sides of a map's nodes lie past the area, each apart from the others.
use Rattle.std.proofs.Common.{◌≡◌, ℕ, ◌≢◌, ◌+◌, ◌*◌, ◌≤◌, ◌<◌, refl, ap, arith, inl, inr}
use Rattle.std.proofs.lemmas.Bool.{cases_eq}
use Rattle.mapped_labels.specs.declared.side.Side.{Side}
use Rattle.mapped_labels.specs.declared.side.Side.TheVariants.{First, Second}
use Rattle.base.specs.formats.Geometry.{IsBlockAddress}
use Rattle.mapped_labels.specs.Shapes.{area_blocks, node_count, other_side, side_address, side_number}
use Rattle.mapped_labels.proofs.MapPlaces.{side_number-le, sides_fit}
use Rattle.space_maps.specs.Laws.{OtherSidesAreSpare}

other_apart : (side : Side) → side_number (other_side side) ≢ side_number side
other_apart First is = omega (arith, is)
other_apart Second is = omega (arith, is)

pub other_sides_are_spare : OtherSidesAreSpare
other_sides_are_spare size node live is low =
    let fits = sides_fit size is in
    let s = other_side (live node) in
    let one = side_number-le s in
    ((area_blocks size + (2 * node + side_number s), omega arith, refl), past s one, apart)
  where
    past : (s : Side) → side_number s ≤ 1 → IsBlockAddress (area_blocks size) (side_address size node s) → ⊥
    past s one inside = let below = inside.1 in let at = inside.2 in omega (arith, below, at)

    apart : (other : ℕ) → other < node_count size → side_address size other (live other) ≢ side_address size node (other_side (live node))
    apart other other_low same = elim (cases_eq other node) as (λ _. ⊥) [
      | inl e ↦ other_apart (live node) (let one : live other ≡ live node = ap live e in
          let a = side_number-le (live other) in let b = side_number-le (other_side (live node)) in
          let n : side_number (live other) ≡ side_number (live node) = ap side_number one in omega (arith, same, e, n, a, b))
      | inr ne ↦ ne (let a = side_number-le (live other) in let b = side_number-le (other_side (live node)) in omega (arith, same, a, b))
    ]
