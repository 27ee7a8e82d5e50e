-- What holds of sealed blocks.
use Rattle.std.specs.Prelude.{ℕ, ◌≡◌, ◌<◌, ◌^◌, List, length, drop, All, IfSome}
use Rattle.base.specs.declared.names.Group.{Group}
use Rattle.base.specs.formats.Fields.{part, number_at}
use Rattle.base.specs.formats.Blocks.{IsBlock, sealed_block}
use Rattle.checked_blocks.specs.declared.expected.Expected.{Expected}
use Rattle.checked_blocks.specs.Opening.{IsExpected}

-- a sealed block has its own fields and payload, and opens wherever these are expected
abbrev pub SealedBlocksOpen : Type 0
SealedBlocksOpen = (kind guid group number : ℕ) (payload : List ℕ) → kind < 2 ^ 64 → guid < 2 ^ 64 → group < 2 ^ 64 → number < 2 ^ 64 → length payload ≡ 4032
    → IsBlock (sealed_block kind guid group number payload) kind guid group number payload
    × ((e : Expected) → e.kind ≡ kind → e.guid ≡ guid → e.number ≡ number → IfSome e.group (λ (g : Group). group ≡ g.0)
    → IfSome e.check (λ (c : List ℕ). part (sealed_block kind guid group number payload) 32 32 ≡ c) → IsExpected (sealed_block kind guid group number payload) e)

-- bytes that open as expected are the sealed block of their fields and their payload
abbrev pub OpenedBlocksAreSealed : Type 0
OpenedBlocksAreSealed = (bytes : List ℕ) (e : Expected) → length bytes ≡ 4096 → All (λ b. b < 256) bytes → IsExpected bytes e
    → bytes ≡ sealed_block e.kind e.guid (number_at bytes 16) e.number (drop 64 bytes)
