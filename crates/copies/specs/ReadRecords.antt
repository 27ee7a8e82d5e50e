-- What a record of an object of the old pool was read as.
use Rattle.std.specs.Prelude.{ℕ, ◌≡◌, ◌≤◌, ◌<◌, ◌+◌, ◌/◌, ◌%◌, Bool, IsTrue, List}
use Rattle.base.specs.declared.error.PoolError.{PoolError}
use Rattle.base.specs.declared.error.PoolError.TheVariants as refusal
use Rattle.base.specs.declared.pointer.Pointer.{Pointer}
use Rattle.base.specs.declared.range.Range.{Range}
use Rattle.base.specs.disk.Disk.{Disk, bytes_of}
use Rattle.base.specs.formats.Limits.{record_size}
use Rattle.base.specs.history.Contents.{Contents, length_of}
use Rattle.base.specs.tree.Mount.{MountsTo}
use Rattle.inspections.specs.PoolDamages.{IsOfNoDamage}
use Rattle.object_views.specs.ReadPaths.{TellsRecord}
use Rattle.object_views.specs.ObjectViews.{IsCheckedRead, IsObjectViewOf, length_seen, object_of}
use Rattle.object_views.specs.declared.view.ObjectView.{ObjectView}
use Rattle.read_commands.specs.Reads.{IsReadersRefusal}
use Rattle.tree_blocks.specs.Sources.{range_in}
use Rattle.trees.specs.declared.damages.BlockDamage.{BlockDamage}
use Rattle.copies.specs.declared.old_records.ReadRecord.{ReadRecord}
use Rattle.copies.specs.declared.old_records.ReadRecord.TheVariants.{Bytes, Damaged}

-- a refusal of what only reads, that names no damage
abbrev pub IsPlainRefusal : PoolError → Type 0
IsPlainRefusal e = IsOfNoDamage e × IsReadersRefusal e

-- a byte at which a record begins, if it lies below the length
abbrev pub IsAligned : ℕ → ℕ → Type 0
IsAligned low length = low < length → low % record_size ≡ 0

-- a range that begins with a record and doesn't pass it
pub record IsInRecord (range : Range) : Type 0 where
  pub aligned : range.low % record_size ≡ 0
  pub short : range.high ≤ range.low + record_size

-- the record that begins at this byte, as far as it lies below the length
pub record IsRecordFrom (low length : ℕ) (range : Range) : Type 0 where
  pub begins : range.low ≡ low
  pub some : low < range.high
  pub within : range.high ≤ length

-- what holds of the image of a device that keeps the model, and of its root, if the view is one of that image
abbrev pub OnSeen : Bool → Disk → ObjectView → (List ℕ → Pointer → Type 0) → Type 0
OnSeen keeps disk v P = IsTrue keeps → (seen : IsObjectViewOf (bytes_of disk.now) v) → P (bytes_of disk.now) seen.u.root

-- an image that has no pool, or one that no import mounts
abbrev pub MountsNone : List ℕ → Type 0
MountsNone image = (contents : Contents) → MountsTo image contents → ⊥

-- each byte from one up to another lies in a record that isn't sound: this block of its path is damaged
abbrev pub AreLost : List ℕ → Pointer → ObjectView → BlockDamage → ℕ → ℕ → Type 0
AreLost image root v d low high = (i : ℕ) → low ≤ i → i < high → TellsRecord image v.frame root (object_of v) (i / record_size) (refusal.Damaged d.kind d.address)

-- bytes of a range are those that the image mounts, if it does
abbrev pub AreMountedBytes : List ℕ → ObjectView → Range → List ℕ → Type 0
AreMountedBytes image v range bytes = (contents : Contents) → MountsTo image contents → bytes ≡ range_in contents.objects v.object range

-- The view is of the image: it has the length that the image mounts, if it does.
pub record IsSeen (image : List ℕ) (v : ObjectView) : Type 0 where
  pub view : IsObjectViewOf image v
  pub length : (contents : Contents) → MountsTo image contents → length_seen v ≡ length_of contents (object_of v)

-- What was read of a range in a record: its bytes, each of sound blocks or of the object's own log records. Or the block
-- of its path that is damaged, and then nothing mounts the image.
abbrev pub IsRangeRead : List ℕ → Pointer → ObjectView → Range → ReadRecord → Type 0
IsRangeRead image root v range (Bytes bytes) = IsCheckedRead image root v range bytes × AreMountedBytes image v range bytes
IsRangeRead image root v range (Damaged d) = AreLost image root v d range.low range.high × MountsNone image
