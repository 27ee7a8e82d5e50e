-- What a view of one object has, and what its reads say of the image.
use Rattle.std.specs.Prelude.{ℕ, ◌≡◌, ◌≢◌, ◌≤◌, ◌<◌, ◌+◌, ◌-◌, ◌/◌, ◌⊎◌, ◌||◌, Bool, true, false, not, is_some, IfSome, IsTrue, List, [], length, None, Option, option_map, unwrap_or}
use Rattle.base.specs.declared.error.PoolError.{PoolError}
use Rattle.base.specs.declared.error.PoolError.TheVariants.{BadGeometry, BadRange, Damaged, NoObject, NoPool}
use Rattle.base.specs.declared.range.Range.{Range}
use Rattle.base.specs.disk.Disk.{Disk, bytes_of}
use Rattle.base.specs.formats.Chain.{LogPiece}
use Rattle.base.specs.formats.Fields.{part}
use Rattle.base.specs.formats.Geometry.{block_address}
use Rattle.base.specs.formats.Limits.{object_count, record_size}
use Rattle.base.specs.formats.Uberblocks.{Uberblock}
use Rattle.base.specs.declared.pointer.Pointer.{Pointer}
use Rattle.base.specs.tree.Mount.{HasNoPool, HasPool, IsChainOf, frame_of, records_above}
use Rattle.device_model.specs.declared.device.SectorDevice.{Ghosts}
use Rattle.tree_blocks.specs.declared.forms.Entry.{Entry}
use Rattle.tree_blocks.specs.Sources.{AreBytesFrom}
use Rattle.trees.specs.ObjectPaths.{IsEntryFound, IsSoundAbove, TellsAbove}
use Rattle.object_views.specs.ReadPaths.{ArePathBlocks, IsSoundObject, IsSoundRecord, OnObject, TellsRecord}
use Rattle.object_views.specs.declared.path_blocks.PathBlocks.{PathBlocks}
use Rattle.object_views.specs.declared.stored_object.StoredObject.{StoredObject}
use Rattle.extents.specs.Patches.{Patch, is_shown, length_over, patched}
use Rattle.extents.specs.Tables.{patches_of}
use Rattle.mounted.specs.Ranges.{is_readable}
use Rattle.object_reads.specs.ShownTrees.{IsRangeRefusal}
use Rattle.inspections.specs.Refused.{IsInspectionRefusal}
use Rattle.object_views.specs.OwnRecords.{AreOwnChanges, IsOwnRefused, ops_of, own_of_records}
use Rattle.object_views.specs.declared.view.ObjectView.{ObjectView}

-- the length that an entry gives, if there is one
abbrev pub length_of_entry : Option Entry → Option ℕ
length_of_entry entry = option_map (λ (e : Entry). e.length) entry

-- This is what the directory of object n has of it: none, or an entry that gives it levels. A number past the last object
-- has none.
pub record IsStoredEntry (image : List ℕ) (root : Pointer) (n : ℕ) (entry : Option Entry) : Type 0 where
  pub found : n < object_count → IsEntryFound image root n entry
  pub present : IfSome entry (λ (e : Entry). e.present ≢ 0)
  pub outside : object_count ≤ n → entry ≡ None

-- the object of a view
abbrev pub object_of : ObjectView → ℕ
object_of v = v.object.0

-- what the object's own records make of it
abbrev pub patch_seen : ObjectView → Patch
patch_seen v = patches_of v.changes (object_of v)

-- the object that is seen if this one is below, and the length that is seen
abbrev pub seen_over : ObjectView → Option (List ℕ) → Option (List ℕ)
seen_over v below = patched (patch_seen v) below

abbrev pub length_seen : ObjectView → Option ℕ
length_seen v = length_over (patch_seen v).basis (length_of_entry v.stored)

-- whether the byte at an offset is seen as the own records have it, whatever is below
abbrev pub is_own : ObjectView → ℕ → Bool
is_own v i = is_some ((patch_seen v).written i) || not (is_shown (patch_seen v).basis i)

-- the bytes of a range of an object that lie below its length, none if there is no such object
abbrev pub bytes_of_range : Option (List ℕ) → Range → List ℕ
bytes_of_range object range = part (unwrap_or object []) range.low (range.high - range.low)

-- the blocks of the view's tree lie on a device of so many bytes
abbrev pub FitsOn : ℕ → ObjectView → Type 0
FitsOn size v = block_address v.frame.blocks ≤ size

-- The view is of an image with this active uberblock. It has what the root and the object's directory say of the object,
-- and both are sound. It has the changes of the object's own operations among the records of the chain above the group.
pub record IsObjectViewOf (image : List ℕ) (v : ObjectView) : Type 0 where
  pub u : Uberblock
  pub name : List ℕ
  pub chain : List LogPiece
  pub pool : HasPool image u name
  pub chain_is : IsChainOf image u chain
  pub frame_is : v.frame ≡ frame_of image u
  pub stored : IsStoredEntry image u.root (object_of v) v.stored
  pub above : object_of v < object_count → IsSoundAbove image (frame_of image u) u.root (object_of v)
  pub own : AreOwnChanges (object_of v) (length_of_entry v.stored) (ops_of (own_of_records (object_of v) (records_above u.group chain))) v.changes

-- one of the object's own operations among the records of the image's chain can't take place: the first such one
pub record IsOwnDamage (image : List ℕ) (u : Uberblock) (n address : ℕ) : Type 0 where
  pub chain : List LogPiece
  pub chain_is : IsChainOf image u chain
  pub entry : Option Entry
  pub stored : IsStoredEntry image u.root n entry
  pub refused : IsOwnRefused n (length_of_entry entry) [] (own_of_records n (records_above u.group chain)) address

-- A Damaged tells the root or the directory of object n, which isn't sound, or the piece of an own record that can't take
-- place.
pub record TellsOwnDamage (image : List ℕ) (n : ℕ) (e : PoolError) (kind address : ℕ) : Type 0 where
  pub u : Uberblock
  pub name : List ℕ
  pub pool : HasPool image u name
  pub damaged : ((n < object_count) × TellsAbove image (frame_of image u) u.root n e) ⊎ ((kind ≡ 6) × IsOwnDamage image u n address)

-- A view was refused: by size the device is as it was.
pub record IsViewingRefused {Dev : Type 0} (D : Ghosts Dev) (n : ℕ) (old new : Dev) (e : PoolError) : Type 0 where
  pub kind : IsInspectionRefusal (D.size old) e
  pub no_pool : IsTrue D.keeps_model → e ≡ NoPool → HasNoPool (bytes_of (D.disk old).now)
  pub damaged : IsTrue D.keeps_model → (kind address : ℕ) → e ≡ Damaged kind address → TellsOwnDamage (bytes_of (D.disk old).now) n e kind address
  pub untouched : e ≡ BadGeometry → new ≡ old

-- what holds of the image of a device that keeps the model, and of each root under which it has the view's entry
abbrev pub OnView : Bool → Disk → ObjectView → (List ℕ → Pointer → Type 0) → Type 0
OnView keeps disk v P = IsTrue keeps → (image : List ℕ) (root : Pointer) → bytes_of disk.now ≡ image → IsStoredEntry image root (object_of v) v.stored → P image root

-- the object as its directory's entry has it, and what holds of the image if there is one
abbrev pub stored_object : ObjectView → Entry → StoredObject
stored_object v e = record { frame = v.frame; id = v.object; entry = e }

abbrev pub OnStored : Bool → Disk → ObjectView → (List ℕ → Pointer → Type 0) → Type 0
OnStored keeps disk v P = IfSome v.stored (λ (e : Entry). OnObject keeps disk (stored_object v e) P)

-- the blocks of the object that are read have the pointers below
abbrev pub AreViewBlocks : ObjectView → PathBlocks → List ℕ → Pointer → Type 0
AreViewBlocks v blocks image root = ArePathBlocks image v.frame root (object_of v) blocks

-- bytes of the object below its own records, from an offset in a record on: those that the blocks of its path have
abbrev pub AreStoredBytes : List ℕ → Pointer → ObjectView → ℕ → List ℕ → Type 0
AreStoredBytes image root v offset into =
    (below : Option (List ℕ)) → IsSoundObject image v.frame root (object_of v) below → AreBytesFrom offset (unwrap_or below []) into

-- and with its own records over them
abbrev pub AreSeenBytes : List ℕ → Pointer → ObjectView → ℕ → List ℕ → Type 0
AreSeenBytes image root v offset into =
    (below : Option (List ℕ)) → IsSoundObject image v.frame root (object_of v) below → AreBytesFrom offset (unwrap_or (seen_over v below) []) into

-- each of so many bytes from an offset on is seen as the own records have it, or the places of its record are sound
abbrev pub AreCheckedBytes : List ℕ → Pointer → ObjectView → ℕ → ℕ → Type 0
AreCheckedBytes image root v offset count =
    (k : ℕ) → k < count → (is_own v (offset + k) ≡ true) ⊎ IsSoundRecord image v.frame root (object_of v) ((offset + k) / record_size)

-- a Damaged tells a place on the path of the record that has a byte from one offset up to another
abbrev pub TellsBetween : List ℕ → Pointer → ObjectView → ℕ → ℕ → PoolError → Type 0
TellsBetween image root v low high e = (kind address : ℕ) → e ≡ Damaged kind address
    → (i : ℕ) × (low ≤ i) × (i < high) × TellsRecord image v.frame root (object_of v) (i / record_size) e

-- Bytes of a range were read of an image. They are those of the object, whatever its bytes are where its places aren't
-- sound. Each of them is one of its own records, or lies in a record whose places are sound.
pub record IsCheckedRead (image : List ℕ) (root : Pointer) (v : ObjectView) (range : Range) (bytes : List ℕ) : Type 0 where
  pub exact : (below : Option (List ℕ)) → IsSoundObject image v.frame root (object_of v) below → bytes ≡ bytes_of_range (seen_over v below) range
  pub checked : AreCheckedBytes image root v range.low (length bytes)

-- a read of a range is refused: outside the limits, for no object, or as its blocks are
abbrev pub IsObjectReadRefusal : ObjectView → Range → PoolError → Type 0
IsObjectReadRefusal v range e =
    ((e ≡ BadRange) × (is_readable (object_of v) range ≡ false)) ⊎ (((e ≡ NoObject) × (length_seen v ≡ None)) ⊎ IsRangeRefusal e)
