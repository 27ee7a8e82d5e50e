-- What is sealed into a block.
use Rattle.std.specs.Prelude.{ℕ, ◌≤◌, ◌-◌, List, [], ◌∷◌, ◌++◌, take, drop, replicate, length}
use Rattle.base.specs.formats.Blocks.{IsBlock}
use Rattle.base.specs.formats.Limits.{payload_size}
use Rattle.checked_blocks.specs.declared.block.Content.{Content}

-- the kinds that a block may have
abbrev pub IsKind : ℕ → Type 0
IsKind kind = (1 ≤ kind) × (kind ≤ 7)

-- a payload, with zeros after it
abbrev pub padded : List ℕ → List ℕ
padded payload = payload ++ replicate (payload_size - length payload) 0

-- these are blocks of this kind, pool and group, each with its own number and payload
abbrev pub AreBlocks : ℕ → ℕ → ℕ → List Content → List (List ℕ) → Type 0
AreBlocks kind guid group [] [] = Unit {0}
AreBlocks kind guid group (own ∷ others) (block ∷ blocks) = IsBlock block kind guid group own.number (padded own.payload.now) × AreBlocks kind guid group others blocks
AreBlocks kind guid group [] (block ∷ blocks) = ⊥
AreBlocks kind guid group (own ∷ others) [] = ⊥

-- so many zeros
unfoldable pub zeros : ℕ → List ℕ
zeros n = replicate n 0

-- the bytes of a block that its check is over: those of the block, with zeros in place of the check
abbrev pub hashed_bytes : List ℕ → List ℕ
hashed_bytes block = take 32 block ++ replicate 32 0 ++ drop 64 block
