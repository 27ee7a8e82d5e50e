-- A copy of a pool, step by step: what was read of the old pool, what of that the new pool is handed, and which lines
-- are written.
use Rattle.std.specs.Prelude.{ℕ, suc, ◌≡◌, ◌<◌, ◌-◌, ◌++◌, ◌⊎◌, Bool, false, true, IsTrue, List, [], ◌∷◌, None, Ok, Option, Some, length, replicate}
use Rattle.std.specs.Io.KnownBytes.{Appends}
use Rattle.std.specs.List.{flat_map, list_all}
use Rattle.base.specs.declared.error.PoolError.TheVariants as refusal
use Rattle.base.specs.declared.names.ObjectId.{ObjectId}
use Rattle.base.specs.declared.operation.Op.{Op}
use Rattle.base.specs.declared.operation.Op.TheVariants.{Create, SetLength, Write}
use Rattle.base.specs.disk.Disk.{Disk, bytes_of}
use Rattle.running_pools.specs.Commits.{MakesFirst}
use Rattle.device_model.specs.declared.device.SectorDevice.{Ghosts}
use Rattle.object_views.specs.ObjectViews.{IsCheckedRead, TellsOwnDamage, length_seen, object_of}
use Rattle.object_views.specs.declared.view.ObjectView.{ObjectView}
use Rattle.pool_threads.specs.declared.handle.Handle.{Handle}
use Rattle.trees.specs.declared.damages.BlockDamage.{BlockDamage}
use Rattle.copies.specs.Lines.{missing_line}
use Rattle.copies.specs.ReadRecords.{AreLost, AreMountedBytes, IsSeen, MountsNone, OnSeen}
use Rattle.copies.specs.declared.missing.Missing.TheVariants as missing

-- steps one after another, from one number up to another
abbrev pub Chain : {S : Type 0} → (ℕ → S → ℕ → Type 0) → ℕ → List S → ℕ → Type 0
Chain IsStep from [] to = to ≡ from
Chain IsStep from (s ∷ steps) to = (middle : ℕ) × IsStep from s middle × Chain IsStep middle steps to

-- What became of the bytes of an object from one up to another: they were written, they are zeros and stay a hole, or
-- they are lost and stay a hole, since this block is damaged.
pub data RecordStep : Type 0 where
  Written : (low high : ℕ) (bytes : List ℕ) → RecordStep
  Hole : (low high : ℕ) (bytes : List ℕ) → RecordStep
  Lost : (low high : ℕ) (damage : BlockDamage) → RecordStep

-- the bytes of a range were read of sound blocks, or of the object's own log records, and are those that are mounted, if
-- the image mounts
abbrev pub AreChecked : Bool → Disk → ObjectView → ℕ → ℕ → List ℕ → Type 0
AreChecked keeps disk v low high bytes =
    OnSeen keeps disk v (λ image root. IsCheckedRead image root v (record { low = low; high = high }) bytes × AreMountedBytes image v (record { low = low; high = high }) bytes)

-- or they can't be read: this block is damaged, and nothing mounts the image
abbrev pub IsLostFrom : Bool → Disk → ObjectView → BlockDamage → ℕ → ℕ → Type 0
IsLostFrom keeps disk v d low high = OnSeen keeps disk v (λ image root. AreLost image root v d low high × MountsNone image)

-- So it is of the device's image: only what was read as zeros is a hole that isn't lost.
abbrev pub IsRecordStep : Bool → Disk → ObjectView → ℕ → RecordStep → ℕ → Type 0
IsRecordStep keeps disk v from (Written low high bytes) to = (low ≡ from) × (high ≡ to) × (from < to) × AreChecked keeps disk v from to bytes
IsRecordStep keeps disk v from (Hole low high bytes) to = (low ≡ from) × (high ≡ to) × (from < to) × (bytes ≡ replicate (length bytes) 0) × AreChecked keeps disk v from to bytes
IsRecordStep keeps disk v from (Lost low high d) to = (low ≡ from) × (high ≡ to) × (from < to) × IsLostFrom keeps disk v d from to

-- the transactions by which the new pool gets it, its line, and whether it is in the copy
abbrev pub record_writes : ObjectId → RecordStep → List (List Op)
record_writes n (Written low high bytes) = (Write n low bytes ∷ []) ∷ []
record_writes n (Hole low high bytes) = []
record_writes n (Lost low high d) = []

abbrev pub record_lines : ObjectId → RecordStep → List ℕ
record_lines n (Written low high bytes) = []
record_lines n (Hole low high bytes) = []
record_lines n (Lost low high d) = missing_line (missing.Bytes n (record { low = low; high = high }) d)

abbrev pub is_kept : RecordStep → Bool
is_kept (Written low high bytes) = true
is_kept (Hole low high bytes) = true
is_kept (Lost low high d) = false

-- What became of an object that was viewed, by what became of its bytes; or of objects from one up to another, of which
-- it isn't known whether they are there, since this block is damaged.
pub data ObjectStep : Type 0 where
  Viewed : ObjectView → List RecordStep → ObjectStep
  Passed : (first after : ℕ) (damage : BlockDamage) → ObjectStep

-- all bytes of an object of this length, if it is there
abbrev pub AreAllSteps : Bool → Disk → ObjectView → Option ℕ → List RecordStep → Type 0
AreAllSteps keeps disk v None steps = steps ≡ []
AreAllSteps keeps disk v (Some size) steps = Chain (IsRecordStep keeps disk v) 0 steps size

-- So it is of the device's image: each object that isn't passed over was seen as an import would mount it.
abbrev pub IsObjectStep : Bool → Disk → ℕ → ObjectStep → ℕ → Type 0
IsObjectStep keeps disk from (Viewed v steps) to = (object_of v ≡ from) × (to ≡ suc from) × (IsTrue keeps → IsSeen (bytes_of disk.now) v) × AreAllSteps keeps disk v (length_seen v) steps
IsObjectStep keeps disk from (Passed first after d) to = (first ≡ from) × (after ≡ to) × (from < to)
    × (IsTrue keeps → TellsOwnDamage (bytes_of disk.now) from (refusal.Damaged d.kind d.address) d.kind d.address × MountsNone (bytes_of disk.now))

-- the transaction by which the new pool gets an object of this length, if there is one
abbrev pub made_object : ObjectId → Option ℕ → List (List Op)
made_object n None = []
made_object n (Some size) = (Create n ∷ SetLength n size ∷ []) ∷ []

abbrev pub viewed_object : ObjectView → ObjectId
viewed_object v = record { 0 = object_of v }

abbrev pub object_writes : ObjectStep → List (List Op)
object_writes (Viewed v steps) = made_object (viewed_object v) (length_seen v) ++ flat_map (record_writes (viewed_object v)) steps
object_writes (Passed first after d) = []

abbrev pub object_lines : ObjectStep → List ℕ
object_lines (Viewed v steps) = flat_map (record_lines (viewed_object v)) steps
object_lines (Passed first after d) = missing_line (missing.Objects (record { 0 = first }) (record { 0 = after - 1 }) d)

abbrev pub is_copied : ObjectStep → Bool
is_copied (Viewed v steps) = list_all is_kept steps
is_copied (Passed first after d) = false

module _ {Dev : Type 0} {G : Ghosts Dev} where
  -- the handle made these transactions in order, and did no more
  abbrev pub MakesAll : List (List Op) → Handle Dev G → Handle Dev G → Type 0
  MakesAll all old new = MakesFirst all (length all) (Ok tt) old new

  -- it wrote bytes to an object at this place; or they are zeros, and it did nothing
  abbrev pub WritesUnlessZeros : ObjectId → ℕ → List ℕ → Handle Dev G → Handle Dev G → Type 0
  WritesUnlessZeros n at bytes old new = ((bytes ≡ replicate (length bytes) 0) × (new ≡ old)) ⊎ MakesAll ((Write n at bytes ∷ []) ∷ []) old new

  -- Steps were made from one number up to another. The new pool's handle made their transactions, and their lines were
  -- written. All was copied, or damages may be passed over.
  pub record Goes {S : Type 0} (IsStep : ℕ → S → ℕ → Type 0) (writes : S → List (List Op)) (lines : S → List ℕ) (is_whole : S → Bool) (skips : Bool) (from to : ℕ) (whole : Bool) (old new : Handle Dev G) (before after : Option (List ℕ)) : Type 0 where
    pub steps : List S
    pub chain : Chain IsStep from steps to
    pub made : MakesAll (flat_map writes steps) old new
    pub written : Appends before after (flat_map lines steps)
    pub whole_is : whole ≡ list_all is_whole steps
    pub strict : skips ≡ false → whole ≡ true

  -- so it was of the bytes of an object, and of the objects of a pool
  abbrev pub CopiesRecords : Bool → Disk → ObjectView → Bool → ℕ → ℕ → Bool → Handle Dev G → Handle Dev G → Option (List ℕ) → Option (List ℕ) → Type 0
  CopiesRecords keeps disk v skips = Goes (IsRecordStep keeps disk v) (record_writes (viewed_object v)) (record_lines (viewed_object v)) is_kept skips

  abbrev pub CopiesObjects : Bool → Disk → Bool → ℕ → ℕ → Bool → Handle Dev G → Handle Dev G → Option (List ℕ) → Option (List ℕ) → Type 0
  CopiesObjects keeps disk skips = Goes (IsObjectStep keeps disk) object_writes object_lines is_copied skips
