-- What the blocks of an object's path say of it, and what is read by them.
use Rattle.std.specs.Prelude.{ℕ, ◌≡◌, ◌≢◌, ◌<◌, ◌*◌, ◌+◌, ◌/◌, ◌%◌, ◌⊎◌, Bool, true, IfSome, IsTrue, List, Option, Some, None, length}
use Rattle.base.specs.declared.error.PoolError.{PoolError}
use Rattle.base.specs.declared.pointer.Pointer.{Pointer}
use Rattle.base.specs.disk.Disk.{Disk, bytes_of}
use Rattle.base.specs.formats.Blocks.{Frame}
use Rattle.base.specs.formats.Fields.{no_pointer, pointer_in}
use Rattle.base.specs.formats.Limits.{pointer_count, record_count, record_size}
use Rattle.base.specs.tree.Damages.{IsSoundAt, length_in}
use Rattle.base.specs.tree.Places.{Place, kind_of, levels_in, number_of_place, pointer_of, strip_number}
use Rattle.base.specs.tree.Places.Place.{Data, Indirect, Top}
use Rattle.base.specs.tree.Tree.{IsRecord, OpensAt}
use Rattle.object_maps.specs.BlockReads.{TellsBlock}
use Rattle.tree_blocks.specs.Sources.{AreBytesFrom}
use Rattle.trees.specs.ObjectPaths.{TellsPlace}
use Rattle.trees.specs.Walking.{IsObjectAt}
use Rattle.object_views.specs.declared.path_blocks.PathBlocks.{PathBlocks}
use Rattle.object_views.specs.declared.stored_object.StoredObject.{StoredObject}

-- the places of record r of object n: its indirect block, and its own
abbrev pub indirect_place : ℕ → ℕ → Place
indirect_place n r = Indirect (strip_number n (r / pointer_count))

abbrev pub record_place : ℕ → ℕ → Place
record_place n r = Data (strip_number n (r / pointer_count)) (r % pointer_count)

-- each place that a read of record r of object n comes to is sound
pub record IsSoundRecord (image : List ℕ) (frame : Frame) (root : Pointer) (n r : ℕ) : Type 0 where
  pub top : IsSoundAt image frame root (Top n)
  pub indirect : IsSoundAt image frame root (indirect_place n r)
  pub block : IsSoundAt image frame root (record_place n r)

-- record r of an object with these bytes is what the pointer at its place names
abbrev pub IsStoredRecord : List ℕ → Frame → Pointer → ℕ → ℕ → List ℕ → Type 0
IsStoredRecord image frame root n r bytes =
    IsRecord image frame (strip_number n (r / pointer_count)) (r % pointer_count) (pointer_of image root (record_place n r)) bytes

-- object n is there, its directory's entry has the length of these bytes, and each record whose places are sound is
-- theirs
pub record HasSoundBytes (image : List ℕ) (frame : Frame) (root : Pointer) (n : ℕ) (bytes : List ℕ) : Type 0 where
  pub there : levels_in image root n ≢ 0
  pub size : length_in image root n ≡ length bytes
  pub records : (r : ℕ) → r < record_count → IsSoundRecord image frame root n r → IsStoredRecord image frame root n r bytes

-- object n is absent by its directory, or has these bytes as far as its places are sound
abbrev pub IsSoundObject : List ℕ → Frame → Pointer → ℕ → Option (List ℕ) → Type 0
IsSoundObject image frame root n None = levels_in image root n ≡ 0
IsSoundObject image frame root n (Some bytes) = HasSoundBytes image frame root n bytes

-- these bytes are those of record r from an offset in it on; they were read, and its block is sound; so are all its places
abbrev pub AreRecordBytes : List ℕ → Frame → Pointer → ℕ → ℕ → ℕ → List ℕ → Type 0
AreRecordBytes image frame root n r start into =
    (bytes : List ℕ) → IsStoredRecord image frame root n r bytes → AreBytesFrom (record_size * r + start) bytes into

pub record IsRecordRead (image : List ℕ) (frame : Frame) (root : Pointer) (n r start : ℕ) (into : List ℕ) : Type 0 where
  pub block : IsSoundAt image frame root (record_place n r)
  pub bytes : AreRecordBytes image frame root n r start into

pub record IsPartRead (image : List ℕ) (frame : Frame) (root : Pointer) (n r start : ℕ) (into : List ℕ) : Type 0 where
  pub sound : IsSoundRecord image frame root n r
  pub bytes : AreRecordBytes image frame root n r start into

-- a Damaged tells the top of object n, the indirect block of its strip j, or a place of its record r
abbrev pub TellsStrip : List ℕ → Frame → Pointer → ℕ → ℕ → PoolError → Type 0
TellsStrip image frame root n j e = TellsPlace image frame root (Top n) e ⊎ TellsPlace image frame root (Indirect (strip_number n j)) e

abbrev pub TellsRecord : List ℕ → Frame → Pointer → ℕ → ℕ → PoolError → Type 0
TellsRecord image frame root n r e = TellsStrip image frame root n (r / pointer_count) e ⊎ TellsPlace image frame root (record_place n r) e

-- what holds of the image of a device that keeps the model, and of each root under which it has this entry of the object
abbrev pub OnObject : Bool → Disk → StoredObject → (List ℕ → Pointer → Type 0) → Type 0
OnObject keeps disk o P = IsTrue keeps → (image : List ℕ) (root : Pointer) → bytes_of disk.now ≡ image → IsObjectAt image root o.id.0 o.entry → P image root

-- The payload of the block of pointers at a place: none of them if no pointer names a block, or that of this block.
abbrev pub IsPayloadRead : List ℕ → Frame → Place → Pointer → List ℕ → Type 0
IsPayloadRead image frame place pointer payload = ((pointer ≡ no_pointer) × ((k : ℕ) → k < pointer_count → pointer_in payload k ≡ no_pointer))
    ⊎ ((pointer ≢ no_pointer) × OpensAt image frame place pointer payload)

-- a pointer names a block, and a Damaged tells that the image doesn't have it there
abbrev pub IsBlockMissing : List ℕ → Frame → Place → Pointer → PoolError → Type 0
IsBlockMissing image frame place pointer e = (pointer ≢ no_pointer) × TellsBlock image frame (kind_of place) (number_of_place place) pointer e

-- the top of object n is sound, and this payload has the pointers to the indirect blocks of its strips
pub record IsTopRead (image : List ℕ) (frame : Frame) (root : Pointer) (n : ℕ) (payload : List ℕ) : Type 0 where
  pub top : IsSoundAt image frame root (Top n)
  pub at : (j : ℕ) → j < pointer_count → pointer_of image root (Indirect (strip_number n j)) ≡ pointer_in payload j

-- so is the indirect block of strip j, and this one has the pointers to its records
pub record IsStripRead (image : List ℕ) (frame : Frame) (root : Pointer) (n j : ℕ) (payload : List ℕ) : Type 0 where
  pub top : IsSoundAt image frame root (Top n)
  pub indirect : IsSoundAt image frame root (Indirect (strip_number n j))
  pub at : (k : ℕ) → k < pointer_count → pointer_of image root (Data (strip_number n j) k) ≡ pointer_in payload k

-- the blocks of object n that are read have the pointers below
pub record ArePathBlocks (image : List ℕ) (frame : Frame) (root : Pointer) (n : ℕ) (blocks : PathBlocks) : Type 0 where
  pub top : blocks.is_top_read ≡ true → IsTopRead image frame root n blocks.top
  pub strip : IfSome blocks.strip (λ j. IsStripRead image frame root n j blocks.indirect)
