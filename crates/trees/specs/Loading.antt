-- What a load of a tree puts into memory, and how it stands for what the image has.
use Rattle.std.specs.Prelude.{ℕ, ◌≡◌, ◌≤◌, ◌<◌, ◌+◌, ◌*◌, ◌⊎◌, Bool, IsTrue, List, Option, None, IfSome, length, slice_get, replicate}
use Rattle.std.specs.Ordering.{nat_cmp}
use Rattle.std.specs.FinMap as finite
use Rattle.std.specs.FinMap.{FinMap}
use Rattle.base.specs.declared.pointer.Pointer.{Pointer}
use Rattle.base.specs.formats.Limits.{object_count, max_length, pointer_count, entry_count}
use Rattle.base.specs.formats.Fields.{pointer_in, entry_in, no_pointer}
use Rattle.base.specs.formats.Blocks.{Frame}
use Rattle.base.specs.tree.Places.{record_number, strip_number, strip_start}
use Rattle.base.specs.tree.Places.Place.{Root, Directory, Top, Indirect}
use Rattle.base.specs.tree.Tree.{OpensAt, IsRecord, record_bytes}
use Rattle.base.specs.kept.PlacedTrees.{HasNonePast, IsEntryFor, IsLong, IsPlaced, NeedsNoTop}
use Rattle.tree_blocks.specs.declared.tree.ObjectEntry.{ObjectEntry}
use Rattle.tree_blocks.specs.Bytes.{AreBytes}
use Rattle.tree_blocks.specs.Pointers.{ObjectPointers, no_pointers, object_pointers, pointer_of_list, strip_in, told_record}

-- the k-th record of strip m, with this pointer to it and these bytes of the object
pub record IsLoadedRecord (keeps : Bool) (image : List ℕ) (frame : Frame) (m k : ℕ) (pointer : Pointer) (bytes : List ℕ) : Type 0 where
  pub placed : IsPlaced frame.blocks pointer
  pub stands : IsTrue keeps → IsRecord image frame m k pointer bytes

-- an object has zeros in its record r
abbrev pub HasZeroRecord : ℕ → List ℕ → Type 0
HasZeroRecord r bytes = record_bytes r bytes ≡ replicate (length (record_bytes r bytes)) 0

-- an object's bytes after the strip of this index is loaded: as many, and in the records of the other strips the same
pub record KeepsOthers (j : ℕ) (old new : List ℕ) : Type 0 where
  pub size : length new ≡ length old
  pub bytes : AreBytes old → AreBytes new
  pub records : (r : ℕ) → (r < pointer_count * j) ⊎ (pointer_count * (j + 1) ≤ r) → record_bytes r new ≡ record_bytes r old

-- so many records of strip m, whose indirect block has this payload, and zeros for the others
pub record AreLoadedRecords (keeps : Bool) (image : List ℕ) (frame : Frame) (m : ℕ) (payload bytes : List ℕ) (count : ℕ) : Type 0 where
  pub loaded : (k : ℕ) → k < count → IsLoadedRecord keeps image frame m k (pointer_in payload k) bytes
  pub rest : (k : ℕ) → count ≤ k → k < pointer_count → HasZeroRecord (record_number m k) bytes

-- no indirect block of strip m and no records, or the block with the pointers to the records
abbrev pub IndirectStands : List ℕ → Frame → ℕ → Pointer → (ℕ → Pointer) → Type 0
IndirectStands image frame m indirect record_at =
    ((indirect ≡ no_pointer) × ((k : ℕ) → k < pointer_count → record_at k ≡ no_pointer))
    ⊎ ((payload : List ℕ) × OpensAt image frame (Indirect m) indirect payload × ((k : ℕ) → k < pointer_count → pointer_in payload k ≡ record_at k))

-- strip m, with the pointers to its indirect block and to its records, and these bytes of the object
pub record IsLoadedStrip (keeps : Bool) (image : List ℕ) (frame : Frame) (m : ℕ) (indirect : Pointer) (record_at : ℕ → Pointer) (bytes : List ℕ) : Type 0 where
  pub placed : IsPlaced frame.blocks indirect
  pub records_placed : (k : ℕ) → k < pointer_count → IsPlaced frame.blocks (record_at k)
  pub stands : IsTrue keeps → IndirectStands image frame m indirect record_at
  pub records_stand : IsTrue keeps → (k : ℕ) → k < pointer_count → IsRecord image frame m k (record_at k) bytes

-- so many strips of object n, as they are told, and zeros for the others
pub record AreLoadedStrips (keeps : Bool) (image : List ℕ) (frame : Frame) (n : ℕ) (strips : List (ℕ × (Pointer × List Pointer))) (bytes : List ℕ) (count : ℕ) : Type 0 where
  pub loaded : (j : ℕ) → j < count → IsLoadedStrip keeps image frame (strip_number n j) (strip_in strips j).0 (told_record (strip_in strips j)) bytes
  pub rest : (r : ℕ) → pointer_count * count ≤ r → HasZeroRecord r bytes

-- no top of object n and no strips, or the block with the pointers to these, none from the object's end on
abbrev pub TopStands : List ℕ → Frame → ℕ → Pointer → (ℕ → Pointer) → ℕ → Type 0
TopStands image frame n top strip size =
    ((top ≡ no_pointer) × ((j : ℕ) → j < pointer_count → strip j ≡ no_pointer))
    ⊎ ((payload : List ℕ) × OpensAt image frame (Top n) top payload
    × ((j : ℕ) → j < pointer_count → (pointer_in payload j ≡ strip j) × (size ≤ strip_start j → strip j ≡ no_pointer)))

-- the two levels of object n, with the pointer to its top, and its strips as they are told
pub record AreLoadedLevels (keeps : Bool) (image : List ℕ) (frame : Frame) (n : ℕ) (top : Pointer) (strips : List (ℕ × (Pointer × List Pointer))) (bytes : List ℕ) : Type 0 where
  pub placed : IsPlaced frame.blocks top
  pub stands : IsTrue keeps → TopStands image frame n top (λ j. (strip_in strips j).0) (length bytes)
  pub each : (j : ℕ) → j < pointer_count → IsLoadedStrip keeps image frame (strip_number n j) (strip_in strips j).0 (told_record (strip_in strips j)) bytes

-- the content of an object: no more than its greatest length, and bytes
abbrev pub IsObjectContent : List ℕ → Type 0
IsObjectContent content = (length content ≤ max_length) × AreBytes content

-- object n, with its content, is within the limits of a pool
abbrev pub IsLimitedObject : ℕ → List ℕ → Type 0
IsLimitedObject n content = (n < object_count) × (length content ≤ max_length) × AreBytes content

-- no top of object n where it needs none, or the block with the pointers to its strips
abbrev pub LevelsStand : List ℕ → Frame → ℕ → Option (List ℕ) → ObjectPointers → Type 0
LevelsStand image frame n object p =
    ((p.top ≡ no_pointer) × ((j : ℕ) → j < pointer_count → NeedsNoTop object j (p.strip j)))
    ⊎ (IsLong object × (payload : List ℕ) × OpensAt image frame (Top n) p.top payload
    × ((j : ℕ) → j < pointer_count → (pointer_in payload j ≡ p.strip j) × HasNonePast object j (p.strip j)))

-- object n, with its pointers
pub record IsLoadedObject (keeps : Bool) (image : List ℕ) (frame : Frame) (n : ℕ) (object : Option (List ℕ)) (p : ObjectPointers) : Type 0 where
  pub placed : IsPlaced frame.blocks p.top
  pub strips_placed : (j : ℕ) → j < pointer_count → IsPlaced frame.blocks (p.strip j)
  pub records_placed : (j k : ℕ) → j < pointer_count → k < pointer_count → IsPlaced frame.blocks (p.record_at j k)
  pub bounded : IfSome object IsObjectContent
  pub stands : IsTrue keeps → LevelsStand image frame n object p
  pub strips_stand : IsTrue keeps → (j : ℕ) → j < pointer_count → IndirectStands image frame (strip_number n j) (p.strip j) (p.record_at j)
  pub records_stand : IsTrue keeps → (j k : ℕ) → j < pointer_count → k < pointer_count
      → IfSome object (λ bytes. IsRecord image frame (strip_number n j) k (p.record_at j k) bytes)

-- object n of those that are loaded, with its pointers
abbrev pub IsLoadedAt : Bool → List ℕ → Frame → FinMap nat_cmp (List ℕ) → List ObjectEntry → ℕ → Type 0
IsLoadedAt keeps image frame objects entries n = IsLoadedObject keeps image frame n (finite.get objects n) (object_pointers entries n)

-- there is no object n, and no pointers of it
pub record IsEmptyAt (objects : FinMap nat_cmp (List ℕ)) (entries : List ObjectEntry) (n : ℕ) : Type 0 where
  pub object : finite.get objects n ≡ None
  pub pointers : object_pointers entries n ≡ no_pointers

-- there is no object from this one on
pub record AreEmptyFrom (start : ℕ) (objects : FinMap nat_cmp (List ℕ)) (entries : List ObjectEntry) : Type 0 where
  pub each : (n : ℕ) → start ≤ n → IsEmptyAt objects entries n

-- the entry of object n
abbrev pub IsEntryAt : Frame → FinMap nat_cmp (List ℕ) → List ObjectEntry → ℕ → List ℕ → Type 0
IsEntryAt frame objects entries n entry = IsEntryFor frame entry (object_pointers entries n).top ((object_pointers entries n).strip 0) (finite.get objects n)

-- all but so many objects from this one on are as before
pub record SameBut (start count : ℕ) (old_objects objects : FinMap nat_cmp (List ℕ)) (old_entries entries : List ObjectEntry) : Type 0 where
  pub same_objects : (n : ℕ) → (n < start) ⊎ (start + count ≤ n) → finite.get objects n ≡ finite.get old_objects n
  pub same_entries : (n : ℕ) → (n < start) ⊎ (start + count ≤ n) → slice_get entries n ≡ slice_get old_entries n

-- so many objects of directory d as its entries say, the others as before
pub record AreLoadedEntries (keeps : Bool) (image : List ℕ) (frame : Frame) (d : ℕ) (payload : List ℕ) (count : ℕ)
    (old_objects objects : FinMap nat_cmp (List ℕ)) (old_entries entries : List ObjectEntry) : Type 0 where
  pub each : (k : ℕ) → k < count → IsLoadedAt keeps image frame objects entries (entry_count * d + k)
  pub named : (k : ℕ) → k < count → IsEntryAt frame objects entries (entry_count * d + k) (entry_in payload k)
  pub others : SameBut (entry_count * d) count old_objects objects old_entries entries

-- no directory and none of its objects, or the block with their entries
abbrev pub DirectoryStands : List ℕ → Frame → ℕ → Pointer → FinMap nat_cmp (List ℕ) → List ObjectEntry → Type 0
DirectoryStands image frame d pointer objects entries =
    ((pointer ≡ no_pointer) × ((k : ℕ) → k < entry_count → IsEmptyAt objects entries (entry_count * d + k)))
    ⊎ ((payload : List ℕ) × OpensAt image frame (Directory d) pointer payload
    × ((k : ℕ) → k < entry_count → IsEntryAt frame objects entries (entry_count * d + k) (entry_in payload k)))

-- the objects of directory d, with this pointer to it
pub record IsLoadedDirectory (keeps : Bool) (image : List ℕ) (frame : Frame) (d : ℕ) (pointer : Pointer) (objects : FinMap nat_cmp (List ℕ)) (entries : List ObjectEntry) : Type 0 where
  pub placed : IsPlaced frame.blocks pointer
  pub each : (k : ℕ) → k < entry_count → IsLoadedAt keeps image frame objects entries (entry_count * d + k)
  pub stands : IsTrue keeps → DirectoryStands image frame d pointer objects entries

-- the objects of directory d are loaded, the others are as before
pub record LoadsDirectory (keeps : Bool) (image : List ℕ) (frame : Frame) (d : ℕ) (pointer : Pointer)
    (old_objects objects : FinMap nat_cmp (List ℕ)) (old_entries entries : List ObjectEntry) : Type 0 where
  pub loaded : IsLoadedDirectory keeps image frame d pointer objects entries
  pub others : SameBut (entry_count * d) entry_count old_objects objects old_entries entries

-- the objects of so many directories, and none of the others
pub record AreLoadedDirectories (keeps : Bool) (image : List ℕ) (frame : Frame) (directories : List Pointer) (count : ℕ)
    (objects : FinMap nat_cmp (List ℕ)) (entries : List ObjectEntry) : Type 0 where
  pub loaded : (d : ℕ) → d < count → IsLoadedDirectory keeps image frame d (pointer_of_list directories d) objects entries
  pub rest : AreEmptyFrom (entry_count * count) objects entries

-- no root and no directories, or the block with the pointers to these
abbrev pub RootStands : List ℕ → Frame → Pointer → List Pointer → Type 0
RootStands image frame root directories =
    ((root ≡ no_pointer) × ((d : ℕ) → d < pointer_count → pointer_of_list directories d ≡ no_pointer))
    ⊎ ((payload : List ℕ) × OpensAt image frame Root root payload × ((d : ℕ) → d < pointer_count → pointer_in payload d ≡ pointer_of_list directories d))

-- a tree, with the pointers to its root and its directories, and no other objects
pub record IsLoadedTree (keeps : Bool) (image : List ℕ) (frame : Frame) (root : Pointer) (directories : List Pointer)
    (objects : FinMap nat_cmp (List ℕ)) (entries : List ObjectEntry) : Type 0 where
  pub placed : IsPlaced frame.blocks root
  pub stands : IsTrue keeps → RootStands image frame root directories
  pub each : (d : ℕ) → d < pointer_count → IsLoadedDirectory keeps image frame d (pointer_of_list directories d) objects entries
  pub rest : AreEmptyFrom object_count objects entries
