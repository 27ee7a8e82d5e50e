-- What a sync makes of a tree, place by place: each place stays as it was, is written, or has no block any more.
use Rattle.std.specs.Prelude.{ℕ, ◌≡◌, ◌≢◌, ◌<◌, ◌+◌, ◌*◌, ◌⊎◌, List, [], length, replicate, slice_get, Option, Some, None, IfSome, unwrap_or, option_map}
use Rattle.std.specs.Ordering.{nat_cmp}
use Rattle.std.specs.FinMap as map
use Rattle.std.specs.FinMap.{FinMap}
use Rattle.base.specs.declared.pointer.Pointer.{Pointer}
use Rattle.base.specs.formats.Limits.{record_size, pointer_count, entry_count}
use Rattle.base.specs.formats.Fields.{part, pointer_in, entry_in, no_pointer}
use Rattle.base.specs.formats.Geometry.{block_size, IsBlockAddress}
use Rattle.base.specs.formats.Blocks.{Frame, IsBlock}
use Rattle.base.specs.tree.Places.{Place, IsPlace, kind_of, number_of_place, object_of_indirect, strip_number, record_number, record_start}
use Rattle.base.specs.tree.Places.Place.{Root, Directory, Top, Indirect, Data}
use Rattle.base.specs.tree.Tree.{record_bytes}
use Rattle.base.specs.kept.PlacedTrees.{IsEntryFor, IsLong, NeedsNoTop, HasNonePast, padded_record}

-- a block that a sync writes: its address, and its bytes
pub record NewBlock : Type 0 where
  pub address : ℕ
  pub content : List ℕ

-- the pointer of a place names one of the new blocks, of the synced group, with this payload
pub record IsNewAt (blocks : List NewBlock) (frame : Frame) (place : Place) (pointer : Pointer) (payload : List ℕ) : Type 0 where
  pub index : ℕ
  pub block : NewBlock
  pub found : slice_get blocks index ≡ Some block
  pub address : pointer.address ≡ block.address
  pub birth : pointer.birth ≡ frame.group
  pub check : part block.content 32 32 ≡ pointer.check
  pub sealed : IsBlock block.content (kind_of place) frame.guid frame.group (number_of_place place) payload

-- an object is there as before, with as many bytes, or absent as before
abbrev pub SameEntry : Option (List ℕ) → Option (List ℕ) → Type 0
SameEntry before after = option_map length before ≡ option_map length after

-- Record r of an object that is there has the same bytes as before, where no object has none. If it has a block, it
-- begins before the end.
abbrev pub SameRecord : Pointer → ℕ → Option (List ℕ) → Option (List ℕ) → Type 0
SameRecord pointer r before after =
    IfSome after (λ bytes. (padded_record r (unwrap_or before []) ≡ padded_record r bytes) × ((pointer ≡ no_pointer) ⊎ (record_size * r < length bytes)))

-- record r of an object, if that is there, has only zeros
abbrev pub IsZeroRecord : ℕ → Option (List ℕ) → Type 0
IsZeroRecord r after = IfSome after (λ bytes. record_bytes r bytes ≡ replicate (length (record_bytes r bytes)) 0)

-- of new blocks, old and new pointers, and objects before and after
module _ (blocks : List NewBlock) (frame : Frame) (old new : Place → Pointer) (before after : FinMap nat_cmp (List ℕ)) where
  -- a place stays: it has the block that it had, which says what it has to say after
  abbrev pub StaysAt : Place → Type 0
  StaysAt Root = (new Root ≡ old Root) × ((d : ℕ) → d < pointer_count → new (Directory d) ≡ old (Directory d))
  StaysAt (Directory d) = (new (Directory d) ≡ old (Directory d)) × ((k : ℕ) → k < entry_count
      → (new (Indirect (entry_count * d + k)) ≡ old (Indirect (entry_count * d + k))) × (new (Top (entry_count * d + k)) ≡ old (Top (entry_count * d + k)))
      × SameEntry (map.get before (entry_count * d + k)) (map.get after (entry_count * d + k)))
  StaysAt (Top n) = (new (Top n) ≡ old (Top n)) × SameEntry (map.get before n) (map.get after n)
      × ((j : ℕ) → j < pointer_count → new (Indirect (strip_number n j)) ≡ old (Indirect (strip_number n j)))
  StaysAt (Indirect m) = (new (Indirect m) ≡ old (Indirect m)) × ((k : ℕ) → k < pointer_count → new (Data m k) ≡ old (Data m k))
  StaysAt (Data m k) = (new (Data m k) ≡ old (Data m k))
      × SameRecord (old (Data m k)) (record_number m k) (map.get before (object_of_indirect m)) (map.get after (object_of_indirect m))

  -- a place is written: it has a new block, which says what it has to say after
  abbrev pub IsWrittenAt : Place → Type 0
  IsWrittenAt Root = (payload : List ℕ) × IsNewAt blocks frame Root (new Root) payload × ((d : ℕ) → d < pointer_count → pointer_in payload d ≡ new (Directory d))
  IsWrittenAt (Directory d) = (payload : List ℕ) × IsNewAt blocks frame (Directory d) (new (Directory d)) payload
      × ((k : ℕ) → k < entry_count
      → IsEntryFor frame (entry_in payload k) (new (Top (entry_count * d + k))) (new (Indirect (entry_count * d + k))) (map.get after (entry_count * d + k)))
  IsWrittenAt (Top n) = IsLong (map.get after n) × (payload : List ℕ) × IsNewAt blocks frame (Top n) (new (Top n)) payload
      × ((j : ℕ) → j < pointer_count
      → (pointer_in payload j ≡ new (Indirect (strip_number n j))) × HasNonePast (map.get after n) j (new (Indirect (strip_number n j))))
  IsWrittenAt (Indirect m) = (payload : List ℕ) × IsNewAt blocks frame (Indirect m) (new (Indirect m)) payload
      × ((k : ℕ) → k < pointer_count → pointer_in payload k ≡ new (Data m k))
  IsWrittenAt (Data m k) = IfSome (map.get after (object_of_indirect m))
      (λ bytes. (record_start m k < length bytes) × IsNewAt blocks frame (Data m k) (new (Data m k)) (padded_record (record_number m k) bytes))

  -- a place has no block any more, and there is nothing that it alone would name: its objects are absent, its strips
  -- need no top, or its record has only zeros
  abbrev pub HasNoneAt : Place → Type 0
  HasNoneAt Root = (new Root ≡ no_pointer) × ((d : ℕ) → d < pointer_count → new (Directory d) ≡ no_pointer)
  HasNoneAt (Directory d) = (new (Directory d) ≡ no_pointer) × ((k : ℕ) → k < entry_count
      → (map.get after (entry_count * d + k) ≡ None) × (new (Indirect (entry_count * d + k)) ≡ no_pointer))
  HasNoneAt (Top n) = (new (Top n) ≡ no_pointer) × ((j : ℕ) → j < pointer_count → NeedsNoTop (map.get after n) j (new (Indirect (strip_number n j))))
  HasNoneAt (Indirect m) = (new (Indirect m) ≡ no_pointer) × ((k : ℕ) → k < pointer_count → new (Data m k) ≡ no_pointer)
  HasNoneAt (Data m k) = (new (Data m k) ≡ no_pointer) × IsZeroRecord (record_number m k) (map.get after (object_of_indirect m))

  -- what becomes of a place
  abbrev pub IsPlannedAt : Place → Type 0
  IsPlannedAt place = StaysAt place ⊎ (IsWrittenAt place ⊎ HasNoneAt place)

  -- and of all places
  abbrev pub IsTreePlan : Type 0
  IsTreePlan = (place : Place) → IsPlace place → IsPlannedAt place

-- the block of a place is the same in both images
abbrev pub SameBlock : List ℕ → List ℕ → Pointer → Type 0
SameBlock before after pointer = pointer ≢ no_pointer → part after pointer.address block_size ≡ part before pointer.address block_size

-- a new block stands in an image
pub record IsBlockWritten (image : List ℕ) (blocks : ℕ) (block : NewBlock) : Type 0 where
  pub in_area : IsBlockAddress blocks block.address
  pub stands : part image block.address block_size ≡ block.content

-- the addresses that come back: those of the old blocks that the new tree does not have at their places
pub record AreFreed (old new : Place → Pointer) (freed : List ℕ) : Type 0 where
  pub all : (place : Place) → IsPlace place → new place ≢ old place → old place ≢ no_pointer → (i : ℕ) × (slice_get freed i ≡ Some ((old place).address))
  pub no_others : (i address : ℕ) → slice_get freed i ≡ Some address → (place : Place) × IsPlace place × (new place ≢ old place) × ((old place).address ≡ address) × (old place ≢ no_pointer)
