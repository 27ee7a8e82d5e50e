-- Addresses of blocks, and their numbers.
use Rattle.std.proofs.Common.{◌≡◌, ℕ, ◌-◌, ◌/◌, ◌%◌, ◌<◌, ◌≤◌, arith}
use Rattle.base.specs.formats.Geometry.{IsBlockAddress, block_area, block_size}

-- the number of a block is what its address gives
pub address-below : (blocks address : ℕ) → IsBlockAddress blocks address → (address - block_area) / block_size < blocks
address-below blocks address (k, below, is) = let e : (address - 4194304) / 4096 ≡ k = omega (arith, is) in omega (arith, below, e)

pub IsBlockAddress-by : (blocks address : ℕ) → block_area ≤ address → (address - block_area) % block_size ≡ 0 → (address - block_area) / block_size < blocks → IsBlockAddress blocks address
IsBlockAddress-by blocks address from whole below = ((address - 4194304) / 4096, below, omega (arith, from, whole))
