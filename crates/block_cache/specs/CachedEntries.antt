-- What the entries of a cache have of an image, and what is left of them after a write.
use Rattle.std.specs.Prelude.{ℕ, ◌≡◌, ◌%◌, List, Contains}
use Rattle.base.specs.disk.Disk.{Apart}
use Rattle.base.specs.formats.Blocks.{payload_at}
use Rattle.base.specs.formats.Geometry.{block_size}

-- each entry is the payload of the image's block at its address, which is that of a whole block
abbrev pub AgreesWith : List ℕ → List (ℕ × List ℕ) → Type 0
AgreesWith image entries = (address : ℕ) (payload : List ℕ) → Contains entries (address, payload) → (address % block_size ≡ 0) × (payload ≡ payload_at image address)

-- what is left was there, and no whole block of it has a byte in this range
abbrev pub DropsIn : ℕ → ℕ → List (ℕ × List ℕ) → List (ℕ × List ℕ) → Type 0
DropsIn at count old new = (address : ℕ) (payload : List ℕ) → Contains new (address, payload)
    → Contains old (address, payload) × (address % block_size ≡ 0 → Apart at count address block_size)
