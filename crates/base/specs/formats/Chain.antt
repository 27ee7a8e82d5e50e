-- The log blocks of a chain, the pieces that they make, and the chain from a header on. A piece is a block of whole
-- records, or the blocks of one long record.
use Rattle.std.specs.Prelude.{ℕ, ⊤, ◌≡◌, ◌≤◌, ◌<◌, ◌+◌, ◌-◌, ◌⊎◌, ◌++◌, List, [], ◌∷◌, take, drop, replicate, length, map, All}
use Rattle.std.specs.List.{flat_map}
use Rattle.base.specs.formats.Limits.{log_block_room}
use Rattle.base.specs.formats.Fields.{part, number_at}
use Rattle.base.specs.formats.Geometry.{block_size, IsBlockAddress}
use Rattle.base.specs.formats.Blocks.{Frame, IsBlock}
use Rattle.base.specs.formats.Records.{Record, IsAllowed, IsOneLevelRecord, size_of, bytes_of_record, bytes_of_records}

-- the place of a log block and its number in the chain
pub record Header : Type 0 where
  pub address : ℕ
  pub number : ℕ

-- a log block: where it lies, which block it names as the next, and the bytes of records that it has
pub record LogBlock : Type 0 where
  pub address : ℕ
  pub next : ℕ
  pub used : List ℕ

-- the payload of a log block: chain number, next address, used length, the bytes of records, zeros
pub record IsLogPayload (payload : List ℕ) (chain : ℕ) (block : LogBlock) : Type 0 where
  pub chain_is : number_at payload 0 ≡ chain
  pub next_is : number_at payload 8 ≡ block.next
  pub used_is : number_at payload 16 ≡ length block.used
  pub fits : length block.used ≤ log_block_room
  pub rest : drop 24 payload ≡ block.used ++ replicate (log_block_room - length block.used) 0

-- The log block that a header names stands in the image, in the pool and the area of this frame. The group that it was
-- packed in is any.
pub record IsLogBlock (image : List ℕ) (frame : Frame) (chain : ℕ) (header : Header) (block : LogBlock) : Type 0 where
  pub address_is : block.address ≡ header.address
  pub in_area : IsBlockAddress frame.blocks header.address
  pub group : ℕ
  pub payload : List ℕ
  pub sealed : IsBlock (part image header.address block_size) 6 frame.guid group header.number payload
  pub fields : IsLogPayload payload chain block

-- the header of the block after this one, and of the one after these
abbrev pub next_block : Header → LogBlock → Header
next_block header block = record { address = block.next; number = header.number + 1 }

abbrev pub after_blocks : Header → List LogBlock → Header
after_blocks header [] = header
after_blocks header (b ∷ bs) = after_blocks (next_block header b) bs

-- log blocks that follow one another in the image from a header on; more may follow
abbrev pub AreLogBlocks : List ℕ → Frame → ℕ → Header → List LogBlock → Type 0
AreLogBlocks image frame chain header [] = ⊤
AreLogBlocks image frame chain header (b ∷ bs) = IsLogBlock image frame chain header b × AreLogBlocks image frame chain (next_block header b) bs

-- the longest list of log blocks from a header on, whatever their records are
abbrev pub IsLine : List ℕ → Frame → ℕ → Header → List LogBlock → Type 0
IsLine image frame chain header [] = (block : LogBlock) → IsLogBlock image frame chain header block → ⊥
IsLine image frame chain header (b ∷ bs) = IsLogBlock image frame chain header b × IsLine image frame chain (next_block header b) bs

-- Bytes in parts: so many in each block but the last, which holds the rest and nothing else.
abbrev pub AreParts : ℕ → List ℕ → List LogBlock → Type 0
AreParts room bytes [] = ⊥
AreParts room bytes (b ∷ bs) =
    ((room < length bytes) × (b.used ≡ take room bytes) × AreParts room (drop room bytes) bs)
    ⊎ ((length bytes ≤ room) × (b.used ≡ bytes) × (bs ≡ []))

-- One block of whole records, one at least. In version 1 none of them reaches past the length of one level.
pub record IsShortPiece (version : ℕ) (blocks : List LogBlock) (records : List Record) : Type 0 where
  pub block : LogBlock
  pub blocks_are : blocks ≡ block ∷ []
  pub some : 0 < length records
  pub allowed : All IsAllowed records
  pub spelled : block.used ≡ bytes_of_records records
  pub one_level : version ≤ 1 → All IsOneLevelRecord records

-- the blocks of one record that one block can't hold
pub record IsLongPiece (blocks : List LogBlock) (records : List Record) : Type 0 where
  pub logged : Record
  pub records_are : records ≡ logged ∷ []
  pub allowed : IsAllowed logged
  pub long : log_block_room < size_of logged
  pub parts : AreParts log_block_room (bytes_of_record logged) blocks

-- these blocks are a whole piece with these records: a long record is one from version 2 on
abbrev pub IsWholePiece : ℕ → List LogBlock → List Record → Type 0
IsWholePiece version blocks records = IsShortPiece version blocks records ⊎ ((1 < version) × IsLongPiece blocks records)

-- a piece of a chain: where it begins, the addresses of its other blocks, the block that it names as the next, and its
-- records
pub record LogPiece : Type 0 where
  pub address : ℕ
  pub behind : List ℕ
  pub next : ℕ
  pub records : List Record

-- the addresses of all its log blocks, in order
abbrev pub addresses_of : LogPiece → List ℕ
addresses_of piece = piece.address ∷ piece.behind

-- and of those of a chain
abbrev pub chain_addresses : List LogPiece → List ℕ
chain_addresses chain = flat_map addresses_of chain

abbrev pub block_addresses : List LogBlock → List ℕ
block_addresses blocks = map (λ (b : LogBlock). b.address) blocks

-- The piece that a header names stands in the image, by the rules of the frame's version.
pub record IsPiece (image : List ℕ) (frame : Frame) (chain : ℕ) (header : Header) (piece : LogPiece) : Type 0 where
  pub blocks : List LogBlock
  pub stand : AreLogBlocks image frame chain header blocks
  pub addresses : block_addresses blocks ≡ addresses_of piece
  pub next_is : (after_blocks header blocks).address ≡ piece.next
  pub whole : IsWholePiece frame.version blocks piece.records

-- the header of the piece after this one: each block of a piece has a number
abbrev pub next_header : Header → LogPiece → Header
next_header header piece = record { address = piece.next; number = header.number + length (addresses_of piece) }

-- The longest list of pieces from a header on, read by the rules of the frame's version. So a record that is
-- unfinished, or is none, ends it before its first block.
abbrev pub IsChain : List ℕ → Frame → ℕ → Header → List LogPiece → Type 0
IsChain image frame chain header [] = (piece : LogPiece) → IsPiece image frame chain header piece → ⊥
IsChain image frame chain header (p ∷ ps) = IsPiece image frame chain header p × IsChain image frame chain (next_header header p) ps

-- the records of a chain in order
abbrev pub records_of_chain : List LogPiece → List Record
records_of_chain chain = flat_map (λ (p : LogPiece). p.records) chain

-- no front of these blocks is a whole piece
abbrev pub HasNoPiece : ℕ → List LogBlock → Type 0
HasNoPiece version blocks = (n : ℕ) (records : List Record) → IsWholePiece version (take n blocks) records → ⊥

-- blocks cut into pieces, as many as are whole; what is left begins no piece
abbrev pub AreCut : ℕ → List LogBlock → List LogPiece → Type 0
AreCut version blocks [] = HasNoPiece version blocks
AreCut version blocks (p ∷ ps) = (bs rest : List LogBlock) × (blocks ≡ bs ++ rest) × IsWholePiece version bs p.records
    × (block_addresses bs ≡ addresses_of p) × ((header : Header) → (after_blocks header bs).address ≡ p.next) × AreCut version rest ps

-- the same, where these blocks are left
abbrev pub AreCutTo : ℕ → List LogBlock → List LogPiece → List LogBlock → Type 0
AreCutTo version blocks [] tail = blocks ≡ tail
AreCutTo version blocks (p ∷ ps) tail = (bs rest : List LogBlock) × (blocks ≡ bs ++ rest) × IsWholePiece version bs p.records
    × (block_addresses bs ≡ addresses_of p) × ((header : Header) → (after_blocks header bs).address ≡ p.next) × AreCutTo version rest ps tail

-- the records that end in each block of these pieces, in order: in all but the last block of a piece none ends
abbrev pub ends_of : List LogPiece → List (List Record)
ends_of [] = []
ends_of (p ∷ ps) = replicate (length p.behind) [] ++ (p.records ∷ ends_of ps)

-- A record is begun in these blocks, and this is left to be written.
abbrev pub IsBegun : ℕ → List ℕ → List LogBlock → List ℕ → Type 0
IsBegun room bytes [] left = left ≡ bytes
IsBegun room bytes (b ∷ bs) left = (room < length bytes) × (b.used ≡ take room bytes) × IsBegun room (drop room bytes) bs left
