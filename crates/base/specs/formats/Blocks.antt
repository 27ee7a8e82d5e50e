-- Blocks with a check, and the pointers that name them.
use Rattle.std.specs.Prelude.{ℕ, ◌≡◌, ◌≤◌, ◌+◌, Bool, List, ◌++◌, take, drop, replicate, length}
use Rattle.std.specs.Str.{bytes_eq}
use Rattle.sha2.specs.Sha256.{sha256}
use Rattle.base.specs.declared.pointer.Pointer.{Pointer}
use Rattle.base.specs.formats.Fields.{part, number_at, number_bytes}
use Rattle.base.specs.formats.Geometry.{block_size, IsBlockAddress}

-- the check of a block agrees: bytes 32 to 64 are the digest of the block with zeros there
abbrev pub IsSealed : List ℕ → Type 0
IsSealed block = part block 32 32 ≡ sha256 (take 32 block ++ replicate 32 0 ++ drop 64 block)

-- the same, as a test
abbrev pub is_sealed : List ℕ → Bool
is_sealed block = bytes_eq (part block 32 32) (sha256 (take 32 block ++ replicate 32 0 ++ drop 64 block))

-- these bytes are a sealed block of this kind, pool, group and number, with this payload
pub record IsBlock (bytes : List ℕ) (kind guid group number : ℕ) (payload : List ℕ) : Type 0 where
  pub size : length bytes ≡ block_size
  pub agrees : IsSealed bytes
  pub kind_is : number_at bytes 0 ≡ kind
  pub guid_is : number_at bytes 8 ≡ guid
  pub group_is : number_at bytes 16 ≡ group
  pub number_is : number_at bytes 24 ≡ number
  pub payload_is : drop 64 bytes ≡ payload

-- the payload of the block at an address
abbrev pub payload_at : List ℕ → ℕ → List ℕ
payload_at image address = drop 64 (part image address block_size)

-- the fields of a block before its check
abbrev pub block_head_bytes : ℕ → ℕ → ℕ → ℕ → List ℕ
block_head_bytes kind guid group number = number_bytes kind ++ number_bytes guid ++ number_bytes group ++ number_bytes number

-- a block as it is sealed
abbrev pub sealed_block : ℕ → ℕ → ℕ → ℕ → List ℕ → List ℕ
sealed_block kind guid group number payload =
    block_head_bytes kind guid group number ++ sha256 (block_head_bytes kind guid group number ++ replicate 32 0 ++ payload) ++ payload

-- the version by whose rules a tree is read or written, the pool's guid, the number of blocks of its area, and the
-- group that no birth may pass
pub record Frame : Type 0 where
  pub version : ℕ
  pub guid : ℕ
  pub blocks : ℕ
  pub group : ℕ

-- the block that a pointer names is of this kind and number, and has this payload
pub record Opens (image : List ℕ) (frame : Frame) (kind number : ℕ) (pointer : Pointer) (payload : List ℕ) : Type 0 where
  pub in_area : IsBlockAddress frame.blocks pointer.address
  pub born : pointer.birth ≤ frame.group
  pub block : IsBlock (part image pointer.address block_size) kind frame.guid pointer.birth number payload
  pub check : part image (pointer.address + 32) 32 ≡ pointer.check
