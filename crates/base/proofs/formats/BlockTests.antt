-- The test of an address says whether it is that of a block.
use Rattle.std.proofs.Common.{◌≡◌, ℕ, ◌-◌, ◌/◌, ◌%◌, ◌<◌, ◌≤◌, ◌&&◌, true, arith, nat_le, nat_lt}
use Rattle.std.specs.Prelude.{◌==◌}
use Rattle.std.proofs.Math.Nat.{div-add-mod}
use Rattle.std.proofs.lemmas.Bool.{and_from, and_parts, eq-eqb, eqb-true, le-leb, leb-true, lt-ltb, ltb-true}
use Rattle.base.specs.formats.Geometry.{IsBlockAddress, block_area, block_size, is_block_of}

-- what passes the test is the address of a block
pub block_of : (blocks address : ℕ) → is_block_of blocks address ≡ true → IsBlockAddress blocks address
block_of blocks address h =
    let outer = and_parts (nat_le block_area address && (((address - block_area) % block_size) == 0)) (nat_lt ((address - block_area) / block_size) blocks) h in
    let inner = and_parts (nat_le block_area address) (((address - block_area) % block_size) == 0) outer.0 in
    let above : block_area ≤ address = leb-true block_area address inner.0 in
    let no_rest : (address - block_area) % block_size ≡ 0 = eqb-true ((address - block_area) % block_size) 0 inner.1 in
    let parts = div-add-mod (address - block_area) block_size in
    ((address - block_area) / block_size, ltb-true ((address - block_area) / block_size) blocks outer.1, omega (arith, parts, no_rest))

-- and the address of a block passes it
pub block_passes : (blocks address : ℕ) → IsBlockAddress blocks address → is_block_of blocks address ≡ true
block_passes blocks address (k, low, at) =
    let whole : (address - block_area) % block_size ≡ 0 = omega arith in
    let index : (address - block_area) / block_size ≡ k = omega arith in
    let above : block_area ≤ address = omega arith in
    let within : (address - block_area) / block_size < blocks = omega (arith, index, low) in
    and_from (nat_le block_area address && (((address - block_area) % block_size) == 0)) (nat_lt ((address - block_area) / block_size) blocks)
    (and_from (nat_le block_area address) (((address - block_area) % block_size) == 0) (le-leb block_area address above) (eq-eqb ((address - block_area) % block_size) 0 whole))
    (lt-ltb ((address - block_area) / block_size) blocks within)
