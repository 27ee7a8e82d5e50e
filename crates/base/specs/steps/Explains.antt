-- When one history explains a pool.
use Rattle.std.specs.Prelude.{ℕ, ◌≡◌, Bool, List, length, Ok}
use Rattle.base.specs.formats.Versions.{written_version}
use Rattle.base.specs.history.Contents.{Contents}
use Rattle.base.specs.history.History.{replay, kept, IsCut, AreRising, IsFrontMarked, HasAcknowledged, IsHistory, entries_up_to}
use Rattle.base.specs.formats.Geometry.{block_count}
use Rattle.base.specs.disk.Disk.{Disk, bytes_of}
use Rattle.base.specs.disk.Fairness.{LeavesFairNow, LeavesFairSince}
use Rattle.base.specs.tree.Tree.{IsTree}
use Rattle.base.specs.tree.Mount.{MountsTo}
use Rattle.base.specs.history.Past.{Past}
use Rattle.base.specs.steps.Shown.{Shown}
use Rattle.base.specs.steps.Exact.{IsExact, AreFree, AreDistinctPlaces}

-- the device holds the tree of the objects that the entries up to the synced group leave
pub record IsSyncedTree (now : List ℕ) (s : Shown) (past : Past) : Type 0 where
  pub synced : Contents
  pub replayed : replay (entries_up_to s.line.synced past.entries) past.base ≡ Ok synced
  pub blocks : s.blocks ≡ block_count (length now)
  pub tree : IsTree now (record { version = written_version; guid = s.guid; blocks = s.blocks; group = s.line.synced }) s.root synced.objects

-- the contents are the replay of a cut of the entries with every acknowledged one, and of a front of them where groups
-- rise with the ordinals
pub record IsLeftBy (past : Past) (contents : Contents) : Type 0 where
  pub marks : List Bool
  pub cut : IsCut marks past.entries
  pub acknowledged : HasAcknowledged marks past.acknowledged
  pub replayed : replay (kept marks past.entries) past.base ≡ Ok contents
  pub front : AreRising past.entries → IsFrontMarked marks

-- an image mounts to such contents
pub record MountsToCut (image : List ℕ) (past : Past) : Type 0 where
  pub contents : Contents
  pub left : IsLeftBy past contents
  pub mounts : MountsTo image contents

-- What a read gives is fair, and every fair image that a crash now may leave mounts to a cut. So a moment of the create
-- that is later than the writes of the pool explains nothing.
abbrev pub AreSafe : Disk → Past → Type 0
AreSafe disk past = LeavesFairNow disk past.created (λ image. MountsToCut image past)

-- at each moment of a call what a read gives was fair, and every fair image mounts to a cut with all that was
-- acknowledged before the call
abbrev pub WereSafe : Disk → Disk → Past → Past → Type 0
WereSafe before after old new = LeavesFairSince before after new.created (λ image. MountsToCut image (record new { acknowledged = old.acknowledged }))

-- the entries are a history that leads to the contents, all that is shown is exact, and the synced tree and the free
-- blocks are what the device holds
pub record ExplainsBytes (keeps : Type 0) (now : List ℕ) (s : Shown) (past : Past) : Type 0 where
  pub exact : IsExact s past
  pub history : keeps → IsHistory past.entries past.base s.contents
  pub tree : keeps → IsSyncedTree now s past
  pub free : keeps → AreFree now s
  pub distinct : keeps → AreDistinctPlaces now s

-- and every fair image that a crash now may leave mounts to a cut with every acknowledged entry
pub record Explains (keeps : Type 0) (disk : Disk) (s : Shown) (past : Past) : Type 0 where
  pub present : ExplainsBytes keeps (bytes_of disk.now) s past
  pub safe : keeps → AreSafe disk past
