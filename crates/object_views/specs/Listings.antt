-- What a list of a pool's objects has, by the labels, the log chain, the root and the directories alone.
use Rattle.std.specs.Prelude.{ℕ, ◌≡◌, ◌⊎◌, IsTrue, List, length, Ok}
use Rattle.base.specs.declared.error.PoolError.{PoolError}
use Rattle.base.specs.declared.error.PoolError.TheVariants.{BadGeometry, Damaged, NoMemory, NoPool}
use Rattle.base.specs.declared.names.ObjectId.{ObjectId}
use Rattle.base.specs.disk.Disk.{bytes_of}
use Rattle.base.specs.formats.Chain.{LogPiece}
use Rattle.base.specs.formats.Geometry.{block_count}
use Rattle.base.specs.formats.Limits.{object_count}
use Rattle.base.specs.formats.Uberblocks.{Uberblock}
use Rattle.base.specs.history.Contents.{Contents}
use Rattle.base.specs.tree.Mount.{HasNoPool, HasPool, IsChainOf, Mount, Placed, apply_records, frame_of, records_above}
use Rattle.device_model.specs.declared.device.SectorDevice.{Ghosts}
use Rattle.log_replay.specs.AddedRecords.{counted_up_to_last}
use Rattle.log_replay.specs.Replays.{IsRecordRefused}
use Rattle.tree_blocks.specs.ListedObjects.{listed}
use Rattle.trees.specs.EntryLists.{AreRising, AreSoundAbove, ListsEntries, TellsFirstAbove}
use Rattle.inspections.specs.Refused.{IsInspectionRefusal}
use Rattle.object_views.specs.PoolPaths.{uberblock_of}
use Rattle.object_views.specs.declared.listing.ListedPool.{ListedPool}
use Rattle.object_views.specs.declared.paths.PoolPaths.{PoolPaths}

-- the list has the name of these contents, and their objects by rising number, each with its length
pub record ListsContents (l : ListedPool) (c : Contents) : Type 0 where
  pub name_is : l.name ≡ c.name
  pub objects_are : l.objects.items ≡ listed c.objects

-- contents have this name, and these objects by rising number, each of this length
pub record IsOfLengths (name : List ℕ) (entries : List (ObjectId × ℕ)) (c : Contents) : Type 0 where
  pub name_is : c.name ≡ name
  pub objects_are : listed c.objects ≡ entries

-- the root and the directories of the tree are sound, and these are the objects that the directories have, by rising
-- number, each with its length
pub record HasEntries (image : List ℕ) (u : Uberblock) (entries : List (ObjectId × ℕ)) : Type 0 where
  pub above : AreSoundAbove image (frame_of image u) u.root
  pub each : ListsEntries image u.root entries
  pub rising : AreRising 0 entries object_count

-- The list is of the image's pool, whose root and directories are sound. The records of its chain above the group lead
-- all contents that have its name, and objects of the lengths in the directories, to contents that are listed.
pub record IsListingOf (image : List ℕ) (l : ListedPool) : Type 0 where
  pub u : Uberblock
  pub name : List ℕ
  pub chain : List LogPiece
  pub entries : List (ObjectId × ℕ)
  pub pool : HasPool image u name
  pub chain_is : IsChainOf image u chain
  pub entries_are : HasEntries image u entries
  pub replayed : (synced : Contents) → IsOfLengths name entries synced → (now : Contents) × (apply_records (records_above u.group chain) synced ≡ Ok now) × ListsContents l now
  pub guid : l.guid ≡ u.guid
  pub group : l.group.0 ≡ u.group
  pub import_number : l.import_number ≡ u.import_number
  pub blocks : l.blocks ≡ block_count (length image)
  pub records : l.records ≡ length (records_above u.group chain)

-- the list has the name, the objects with their lengths and the numbers of what an image mounts
pub record IsListingOfMount (m : Mount) (l : ListedPool) : Type 0 where
  pub name_is : l.name ≡ m.contents.name
  pub objects_are : l.objects.items ≡ listed m.contents.objects
  pub guid : l.guid ≡ m.guid
  pub group : l.group.0 ≡ m.group
  pub import_number : l.import_number ≡ m.import_number
  pub blocks : l.blocks ≡ m.blocks
  pub records : l.records ≡ m.records

-- One of the records of the image's chain can't take place, whatever the bytes of the objects are: the first such one.
-- The root and the directories are sound.
pub record IsRecordDamage (image : List ℕ) (u : Uberblock) (name : List ℕ) (address : ℕ) : Type 0 where
  pub chain : List LogPiece
  pub chain_is : IsChainOf image u chain
  pub entries : List (ObjectId × ℕ)
  pub entries_are : HasEntries image u entries
  pub refused : (synced : Contents) → IsOfLengths name entries synced → IsRecordRefused (records_above u.group chain) synced address

-- A Damaged tells the root or the first directory that isn't sound, or the piece of the first record that can't take
-- place.
pub record TellsListingDamage (image : List ℕ) (e : PoolError) (kind address : ℕ) : Type 0 where
  pub u : Uberblock
  pub name : List ℕ
  pub pool : HasPool image u name
  pub damaged : TellsFirstAbove image (frame_of image u) u.root e ⊎ ((kind ≡ 6) × IsRecordDamage image u name address)

-- A list was refused: by size the device is as it was.
pub record IsListingRefused {Dev : Type 0} (D : Ghosts Dev) (old new : Dev) (e : PoolError) : Type 0 where
  pub kind : IsInspectionRefusal (D.size old) e
  pub no_pool : IsTrue D.keeps_model → e ≡ NoPool → HasNoPool (bytes_of (D.disk old).now)
  pub damaged : IsTrue D.keeps_model → (kind address : ℕ) → e ≡ Damaged kind address → TellsListingDamage (bytes_of (D.disk old).now) e kind address
  pub untouched : e ≡ BadGeometry → new ≡ old

-- the records that an import by these paths would apply
abbrev pub records_of : PoolPaths → List Placed
records_of p = records_above (uberblock_of p).group p.logged.items

-- The list is what these records make of contents with the name of the paths, and with objects of these lengths.
pub record IsReplayedOn (p : PoolPaths) (entries : List (ObjectId × ℕ)) (l : ListedPool) : Type 0 where
  pub replayed : (synced : Contents) → IsOfLengths p.found.name entries synced → (now : Contents) × (apply_records (records_of p) synced ≡ Ok now) × ListsContents l now
  pub rising : AreRising 0 l.objects.items object_count
  pub guid : l.guid ≡ (uberblock_of p).guid
  pub group : l.group.0 ≡ (uberblock_of p).group
  pub import_number : l.import_number ≡ (uberblock_of p).import_number
  pub blocks : l.blocks ≡ block_count p.geometry
  pub records : l.records ≡ counted_up_to_last (length (records_of p))

-- there is no memory, or one of these records can't take place on such contents
abbrev pub IsRefusedOn : PoolPaths → List (ObjectId × ℕ) → PoolError → Type 0
IsRefusedOn p entries e =
    (e ≡ NoMemory) ⊎ ((address : ℕ) × (e ≡ Damaged 6 address) × ((synced : Contents) → IsOfLengths p.found.name entries synced → IsRecordRefused (records_of p) synced address))
