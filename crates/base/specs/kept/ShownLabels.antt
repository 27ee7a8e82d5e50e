-- Which group the labels of a running pool show: where no step is under way, this is what an import would find.
use Rattle.std.specs.Prelude.{ℕ, ◌≡◌, ◌≢◌, ◌≤◌, ◌<◌, ◌⊎◌, List, length, Option, Some, None, Ok}
use Rattle.base.specs.declared.pointer.Pointer.{Pointer}
use Rattle.base.specs.history.Contents.{Contents}
use Rattle.base.specs.history.History.{replay, entries_up_to}
use Rattle.base.specs.formats.Fields.{part, number_at}
use Rattle.base.specs.formats.Geometry.{block_size, block_count, IsBlockAddress}
use Rattle.base.specs.formats.Versions.{written_version}
use Rattle.base.specs.formats.Uberblocks.{Uberblock, IsActive}
use Rattle.base.specs.formats.Labels.{IsChosen}
use Rattle.base.specs.formats.Chain.{Header}
use Rattle.base.specs.tree.Mount.{header_of}
use Rattle.base.specs.history.Past.{Past}
use Rattle.base.specs.steps.Shown.{Shown, SyncPlan, uberblock_of}
use Rattle.base.specs.kept.Layout.{header_now}
use Rattle.base.specs.kept.SyncCalls.{NewTree, calls_before_uberblock}

-- the active uberblock of these bytes, and the config that is chosen for it with this name
pub record ShowsUberblock (now : List ℕ) (u : Uberblock) (name : List ℕ) : Type 0 where
  pub active : IsActive now u
  pub config_group : ℕ
  pub chosen : IsChosen now u.guid u.group config_group name

-- the active uberblock is one of the pool, of this group, root and log header
pub record ShowsGroup (now : List ℕ) (s : Shown) (group : ℕ) (root : Pointer) (header : Header) (name : List ℕ) : Type 0 where
  pub u : Uberblock
  pub shows : ShowsUberblock now u name
  pub guid : u.guid ≡ s.guid
  pub group_is : u.group ≡ group
  pub import_is : u.import_number ≡ s.import_number
  pub root_is : u.root ≡ root
  pub header_is : header_of u ≡ header
  pub version_is : u.version ≡ written_version

-- and the name is that of the contents that the entries up to the group leave
pub record ShowsEntries (now : List ℕ) (s : Shown) (past : Past) (group : ℕ) (root : Pointer) (header : Header) : Type 0 where
  pub contents : Contents
  pub replayed : replay (entries_up_to group past.entries) past.base ≡ Ok contents
  pub shows : ShowsGroup now s group root header contents.name

-- the synced group
abbrev pub ShowsSynced : List ℕ → Shown → Past → Type 0
ShowsSynced now s past = ShowsEntries now s past s.line.synced s.root (header_now s.log)

-- the uberblock of the sync that runs
pub record ShowsSyncing (now : List ℕ) (s : Shown) (past : Past) : Type 0 where
  pub group : ℕ
  pub plan : SyncPlan
  pub syncing : s.line.syncing ≡ Some group
  pub running : s.sync ≡ Some plan
  pub contents : Contents
  pub replayed : replay (entries_up_to group past.entries) past.base ≡ Ok contents
  pub shows : ShowsUberblock now (uberblock_of s group plan) contents.name

-- The labels show the synced group, until the running sync, if there is one, has written its uberblock into the first
-- label: then they show that one.
abbrev pub AreLabelsShown : List ℕ → Shown → Option NewTree → Past → Type 0
AreLabelsShown now s None past = ShowsSynced now s past
AreLabelsShown now s (Some new) past =
    ((new.done ≤ calls_before_uberblock new) × ShowsSynced now s past) ⊎ ((calls_before_uberblock new < new.done) × ShowsSyncing now s past)

-- No block of the area is a log block, so that each chain is empty. (Nothing writes a log so far.)
abbrev pub HasNoLogBlock : List ℕ → Type 0
HasNoLogBlock now = (address : ℕ) → IsBlockAddress (block_count (length now)) address → number_at (part now address block_size) 0 ≢ 6
