-- What is read of a chain of log blocks.
use Rattle.std.specs.Prelude.{ℕ, ◌≡◌, ◌≤◌, ◌<◌, ◌-◌, ◌++◌, ◌⊎◌, List, [], ◌∷◌, All, drop, length, None, replicate, take}
use Rattle.std.specs.Int.{from_le_bytes, w32}
use Rattle.base.specs.declared.error.PoolError.{PoolError}
use Rattle.base.specs.declared.error.PoolError.TheVariants.{NoMemory, Read}
use Rattle.base.specs.declared.version.Version.{Version}
use Rattle.base.specs.formats.Blocks.{Frame, IsBlock}
use Rattle.base.specs.formats.Fields.{number_at, part}
use Rattle.base.specs.formats.Geometry.{IsBlockAddress}
use Rattle.base.specs.formats.Chain.{Header, LogBlock, LogPiece, IsLogPayload, IsLogBlock, AreLogBlocks, AreParts, IsPiece, IsChain, IsLongPiece, addresses_of, after_blocks, block_addresses}
use Rattle.base.specs.formats.Limits.{log_block_room}
use Rattle.base.specs.formats.Records.{Record, IsAllowed, IsOneLevelRecord, bytes_of_record, bytes_of_records, size_of}
use Rattle.base.specs.formats.Versions.{number_of_version}
use Rattle.checked_blocks.specs.declared.expected.Expected.{Expected}
use Rattle.intent_log.specs.declared.chains.ChainHeader.{ChainHeader}
use Rattle.intent_log.specs.declared.parts.Parts.{Parts}

-- why a chain is not read: there is no memory, or the device refused a read
abbrev pub IsChainRefusal : PoolError → Type 0
IsChainRefusal e = (e ≡ NoMemory) ⊎ (e ≡ Read)

-- the place and number of the first block, and the pool, by whose rules the chain is read: those of the header's
-- version
abbrev pub header_of_chain : ChainHeader → Header
header_of_chain h = record { address = h.address; number = h.number }

abbrev pub frame_of_chain : Frame → ChainHeader → Frame
frame_of_chain frame h = record frame { version = number_of_version h.version }

-- the log block that a header names, and that there is none
abbrev pub IsBlockAt : List ℕ → Frame → ChainHeader → LogBlock → Type 0
IsBlockAt image frame h block = IsLogBlock image (frame_of_chain frame h) h.import_number (header_of_chain h) block

abbrev pub HasNoBlock : List ℕ → Frame → ChainHeader → Type 0
HasNoBlock image frame h = (block : LogBlock) → IsBlockAt image frame h block → ⊥

-- the piece of a chain that a header names, and that there is none
abbrev pub IsPieceAt : List ℕ → Frame → ChainHeader → LogPiece → Type 0
IsPieceAt image frame h piece = IsPiece image (frame_of_chain frame h) h.import_number (header_of_chain h) piece

abbrev pub HasNoPieceAt : List ℕ → Frame → ChainHeader → Type 0
HasNoPieceAt image frame h = (piece : LogPiece) → IsPieceAt image frame h piece → ⊥

-- the longest chain from a header on
abbrev pub IsChainFrom : List ℕ → Frame → ChainHeader → List LogPiece → Type 0
IsChainFrom image frame h pieces = IsChain image (frame_of_chain frame h) h.import_number (header_of_chain h) pieces

-- The block at this address is sealed with this number, for this chain. It has the bytes of one record, and then zeros.
pub record HasOneRecord (image : List ℕ) (frame : Frame) (chain address number : ℕ) (r : Record) : Type 0 where
  pub in_area : IsBlockAddress frame.blocks address
  pub group : ℕ
  pub payload : List ℕ
  pub sealed : IsBlock (part image address 4096) 6 frame.guid group number payload
  pub chain_is : number_at payload 0 ≡ chain
  pub used_is : number_at payload 16 ≡ size_of r
  pub rest : drop 24 payload ≡ bytes_of_record r ++ replicate (4008 - size_of r) 0
  pub allowed : IsAllowed r
  pub short : size_of r ≤ 4008

-- there is no payload of a log block of this chain
abbrev pub HasNoPayload : List ℕ → ℕ → Type 0
HasNoPayload payload chain = (block : LogBlock) → IsLogPayload payload chain block → ⊥

-- these bytes are the records, one at least, each within its limits
pub record AreRecordsOf (bytes : List ℕ) (records : List Record) : Type 0 where
  pub some : 0 < length records
  pub allowed : All IsAllowed records
  pub spelled : bytes ≡ bytes_of_records records

abbrev pub HasNoRecords : List ℕ → Type 0
HasNoRecords bytes = (records : List Record) → AreRecordsOf bytes records → ⊥

-- a version has these records: in version 1 none of them reaches past the length of one level
abbrev pub AreOfVersion : Version → List Record → Type 0
AreOfVersion version records = number_of_version version ≤ 1 → All IsOneLevelRecord records

-- these bytes are no records that a version has
abbrev pub HasNoneOfVersion : Version → List ℕ → Type 0
HasNoneOfVersion version bytes = (records : List Record) → AreRecordsOf bytes records → AreOfVersion version records → ⊥

-- these bytes are one record within its limits, and they are none
pub record IsRecordOf (bytes : List ℕ) (r : Record) : Type 0 where
  pub allowed : IsAllowed r
  pub spelled : bytes ≡ bytes_of_record r

abbrev pub IsNoRecord : List ℕ → Type 0
IsNoRecord bytes = (r : Record) → IsRecordOf bytes r → ⊥

-- a piece of this block alone, of whole records that the version has
pub record IsShortOf (version : Version) (block : LogBlock) (piece : LogPiece) : Type 0 where
  pub address_is : piece.address ≡ block.address
  pub none_behind : piece.behind ≡ []
  pub next_is : piece.next ≡ block.next
  pub are : AreRecordsOf block.used piece.records
  pub of_version : AreOfVersion version piece.records

-- On each device all that was read of a piece lies in the area, and its records are within their limits. It has no more
-- blocks than the longest record.
pub record IsSoundPiece (blocks : ℕ) (piece : LogPiece) : Type 0 where
  pub in_area : All (IsBlockAddress blocks) (addresses_of piece)
  pub allowed : All IsAllowed piece.records
  pub short : length piece.behind ≤ 16

-- of a log block: where it lies, and that it has no more bytes than there is room
pub record IsSoundBlock (blocks : ℕ) (h : ChainHeader) (block : LogBlock) : Type 0 where
  pub address_is : block.address ≡ h.address
  pub in_area : IsBlockAddress blocks h.address
  pub fits : length block.used ≤ log_block_room

-- no long record begins with the bytes of a block
abbrev pub BeginsNone : List ℕ → Type 0
BeginsNone used = (r : Record) → IsAllowed r → log_block_room < size_of r → used ≡ take log_block_room (bytes_of_record r) → ⊥

-- The bytes of a block may begin a long record: they say that it has this size.
pub record MayBegin (used : List ℕ) (size : ℕ) : Type 0 where
  pub full : length used ≡ log_block_room
  pub long : log_block_room < size
  pub within : size ≤ 65536
  pub said : from_le_bytes w32 (take 4 used) ≡ size

-- some bytes stand in parts in the blocks from a header on
abbrev pub StandInParts : List ℕ → Frame → ChainHeader → List ℕ → Type 0
StandInParts image frame h bytes =
    (blocks : List LogBlock) × AreLogBlocks image (frame_of_chain frame h) h.import_number (header_of_chain h) blocks × AreParts log_block_room bytes blocks

-- these parts do, and of all bytes of this size only they
pub record AreGathered (image : List ℕ) (frame : Frame) (h : ChainHeader) (size : ℕ) (parts : Parts) : Type 0 where
  pub blocks : List LogBlock
  pub stand : AreLogBlocks image (frame_of_chain frame h) h.import_number (header_of_chain h) blocks
  pub addresses : block_addresses blocks ≡ h.address ∷ parts.behind.items
  pub next_is : (after_blocks (header_of_chain h) blocks).address ≡ parts.next
  pub are : AreParts log_block_room parts.bytes.items blocks
  pub only : (bytes : List ℕ) → length bytes ≡ size → StandInParts image frame h bytes → bytes ≡ parts.bytes.items

-- no bytes of this size do
abbrev pub NoneStand : List ℕ → Frame → ChainHeader → ℕ → Type 0
NoneStand image frame h size = (bytes : List ℕ) → length bytes ≡ size → StandInParts image frame h bytes → ⊥

-- a piece of one long record stands here, and none whose record has this size
pub record IsLongAt (image : List ℕ) (frame : Frame) (h : ChainHeader) (piece : LogPiece) : Type 0 where
  pub blocks : List LogBlock
  pub stand : AreLogBlocks image (frame_of_chain frame h) h.import_number (header_of_chain h) blocks
  pub addresses : block_addresses blocks ≡ addresses_of piece
  pub next_is : (after_blocks (header_of_chain h) blocks).address ≡ piece.next
  pub long : IsLongPiece blocks piece.records

abbrev pub HasNoLong : List ℕ → Frame → ChainHeader → ℕ → Type 0
HasNoLong image frame h size = (r : Record) → IsAllowed r → size_of r ≡ size → StandInParts image frame h (bytes_of_record r) → ⊥

-- on each device
pub record AreSoundParts (blocks size : ℕ) (parts : Parts) : Type 0 where
  pub in_area : All (IsBlockAddress blocks) parts.behind.items
  pub short : length parts.behind.items ≤ 16
  pub size_is : length parts.bytes.items ≡ size

-- what is expected of the log block that a header names: its group is any
pub record IsLogExpected (frame : Frame) (h : ChainHeader) (e : Expected) : Type 0 where
  pub kind_is : e.kind ≡ 6
  pub guid_is : e.guid ≡ frame.guid
  pub number_is : e.number ≡ h.number
  pub group_is : e.group ≡ None
  pub check_is : e.check ≡ None
