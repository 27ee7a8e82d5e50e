-- The sides of a map's nodes lie between the area and label 2.
use Rattle.std.proofs.Common.{◌≡◌, ℕ, zero, suc, ◌+◌, ◌*◌, ◌/◌, ◌≤◌, refl, arith}
use Rattle.std.proofs.lemmas.Bool.Decides.{nat_tests}
use Rattle.mapped_labels.specs.declared.side.Side.{Side}
use Rattle.mapped_labels.specs.declared.side.Side.TheVariants.{First, Second}
use Rattle.mapped_labels.specs.Shapes.{IsMappedGeometry, level_count, node_count, nodes_over, nodes_up_to, side_number, total_blocks}

pub side_number-le : (side : Side) → side_number side ≤ 1
side_number-le First = omega arith
side_number-le Second = omega arith

-- a device has at least 6 MiB
least : (size : ℕ) → IsMappedGeometry size → 6291456 ≤ size
least size is = grind (arith, nat_tests, is)

total-least : (size : ℕ) → IsMappedGeometry size → 384 ≤ total_blocks size
total-least size is = let low = least size is in omega (arith, low)

-- the nodes of a map are few
count_of : (n0 n1 n2 n3 total : ℕ) → n0 ≡ (total + 32255) / 32256 → n1 ≡ (n0 + 71) / 72 → n2 ≡ (n1 + 71) / 72 → n3 ≡ (n2 + 71) / 72 → 384 ≤ total
    → 2 * (n0 + n1 + n2 + n3) ≤ total
count_of n0 n1 n2 n3 total e0 e1 e2 e3 low = omega (arith, e0, e1, e2, e3, low)

level_count-le : (size : ℕ) → level_count size ≤ 4
level_count-le size = grind arith

nodes_up_to-le : (total level : ℕ) → level ≤ 4 → nodes_up_to total level ≤ nodes_up_to total 4
nodes_up_to-le total zero low = omega arith
nodes_up_to-le total (suc zero) low = omega arith
nodes_up_to-le total (suc (suc zero)) low = omega arith
nodes_up_to-le total (suc (suc (suc zero))) low = omega arith
nodes_up_to-le total (suc (suc (suc (suc zero)))) low = omega arith
nodes_up_to-le total (suc (suc (suc (suc (suc n))))) low = absurd (omega (arith, low))

-- so the area and the sides are what lies between the boot area and label 2
pub sides_fit : (size : ℕ) → IsMappedGeometry size → 2 * node_count size ≤ total_blocks size
sides_fit size is =
    let low = total-least size is in
    let t = total_blocks size in
    let four : 2 * (nodes_over t 0 + nodes_over t 1 + nodes_over t 2 + nodes_over t 3) ≤ t = count_of (nodes_over t 0) (nodes_over t 1) (nodes_over t 2) (nodes_over t 3) t refl refl refl refl low in
    let all : nodes_up_to t 4 ≡ nodes_over t 0 + nodes_over t 1 + nodes_over t 2 + nodes_over t 3 = omega arith in
    omega (arith, four, all, nodes_up_to-le t (level_count size) (level_count-le size))
