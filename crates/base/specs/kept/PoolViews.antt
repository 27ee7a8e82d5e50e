-- The views that a running pool keeps on its disk: the one of its synced group, and, while a sync runs, also the one of
-- that sync's group, each with the kept log from its header on.
use Rattle.std.specs.Prelude.{ℕ, ◌≡◌, ◌<◌, ◌⊎◌, ◌++◌, true, List, [], length, map, drop, replicate, slice_get, Option, Some, None, Ok}
use Rattle.std.specs.List.{list_any}
use Rattle.base.specs.declared.pointer.Pointer.{Pointer}
use Rattle.base.specs.history.History.{replay, entries_up_to}
use Rattle.base.specs.history.Contents.{Contents}
use Rattle.base.specs.disk.Disk.{Moment, handed}
use Rattle.base.specs.disk.Fairness.{HasFairBytes}
use Rattle.base.specs.tree.Syncs.{is_rename}
use Rattle.base.specs.steps.Steps.{ops_of_group}
use Rattle.base.specs.formats.Limits.{log_block_room}
use Rattle.base.specs.formats.Versions.{written_version}
use Rattle.base.specs.formats.Records.{IsAllowed, size_of, bytes_of_record}
use Rattle.base.specs.formats.Chain.{Header, LogBlock, LogPiece, AreCutTo, ends_of, IsBegun}
use Rattle.base.specs.tree.Mount.{header_of}
use Rattle.base.specs.history.Past.{Past}
use Rattle.base.specs.steps.Logs.{KeptBlock, Begun}
use Rattle.base.specs.steps.Shown.{Shown, SyncPlan}
use Rattle.base.specs.kept.Layout.{AreNotedOf, kept_from, header_now}
use Rattle.base.specs.kept.Views.{View, Logged, blocks_of, AreConfigsUpTo, config_content, header_behind}
use Rattle.base.specs.kept.LogRule.{IsLogHeld}
use Rattle.base.specs.kept.Own.{IsAtRest, IsBetween}

-- the log blocks of the record that is begun, and none where none is
abbrev pub IsTail : ℕ → Option Begun → List LogBlock → Type 0
IsTail version None tail = tail ≡ []
IsTail version (Some g) tail = (1 < version) × IsAllowed g.logged × (log_block_room < size_of g.logged) × (0 < length tail)
    × IsBegun log_block_room (bytes_of_record g.logged) tail (drop g.written (bytes_of_record g.logged))

-- These log blocks are cut into pieces and, in the end, those of the record that is begun; the records of each piece
-- end in its last block.
pub record IsOpen (version : ℕ) (begun : Option Begun) (ls : List Logged) : Type 0 where
  pub chain : List LogPiece
  pub tail : List LogBlock
  pub cut : AreCutTo version (blocks_of ls) chain tail
  pub ends : map (λ (l : Logged). l.ends) ls ≡ ends_of chain ++ replicate (length tail) []
  pub left : IsTail version begun tail

-- the view is that of a group of the pool, with this root and the kept log from this header on, after which the next
-- log block goes; so many of its log blocks are fixed
pub record IsViewOf (flushed : ℕ) (v : View) (s : Shown) (past : Past) (group : ℕ) (root : Pointer) (header : Header) : Type 0 where
  pub guid : v.u.guid ≡ s.guid
  pub group_is : v.u.group ≡ group
  pub root_is : v.u.root ≡ root
  pub import_is : v.u.import_number ≡ s.import_number
  pub header_is : header_of v.u ≡ header
  pub replayed : replay (entries_up_to group past.entries) past.base ≡ Ok v.synced
  pub as_many : length v.logged ≡ length (kept_from header s.log)
  pub blocks : (i : ℕ) (k : KeptBlock) (l : Logged) → slice_get (kept_from header s.log) i ≡ Some k → slice_get v.logged i ≡ Some l
      → (l.block.address ≡ k.address) × AreNotedOf past.entries k l.ends
  pub flushed_are : (i : ℕ) (k : KeptBlock) → slice_get (kept_from header s.log) i ≡ Some k → k.flushed ≡ true → i < flushed
  pub goes_on : header_behind (header_of v.u) v.logged ≡ s.log.next
  pub version_is : v.u.version ≡ written_version
  pub pieces : IsOpen v.u.version s.log.begun v.logged

-- at rest on the synced group's view
pub record IsPoolAtRest (size : ℕ) (m : Moment) (s : Shown) (past : Past) : Type 0 where
  pub v : View
  pub flushed : ℕ
  pub rest : IsAtRest size past.created flushed m v
  pub is : IsViewOf flushed v s past s.line.synced s.root (header_now s.log)
  pub held : IsLogHeld size past.created flushed s.suspended m v

-- between it and the view of the sync that runs
pub record IsPoolBetween (size : ℕ) (m : Moment) (s : Shown) (past : Past) : Type 0 where
  pub group : ℕ
  pub plan : SyncPlan
  pub syncing : s.line.syncing ≡ Some group
  pub running : s.sync ≡ Some plan
  pub old : View
  pub new : View
  pub flushed : ℕ
  pub new_flushed : ℕ
  pub between : IsBetween size past.created flushed new_flushed m old new
  pub old_is : IsViewOf flushed old s past s.line.synced s.root (header_now s.log)
  pub new_is : IsViewOf new_flushed new s past group plan.root plan.header
  pub old_held : IsLogHeld size past.created flushed s.suspended m old
  pub new_held : IsLogHeld size past.created new_flushed s.suspended m new

-- At rest on the view of the sync that runs: a flush has come after a write of its uberblock, and it has calls left.
-- So it is where the log is flushed between two of these writes.
pub record IsPoolSwitched (size : ℕ) (m : Moment) (s : Shown) (past : Past) : Type 0 where
  pub group : ℕ
  pub plan : SyncPlan
  pub syncing : s.line.syncing ≡ Some group
  pub running : s.sync ≡ Some plan
  pub v : View
  pub flushed : ℕ
  pub rest : IsAtRest size past.created flushed m v
  pub is : IsViewOf flushed v s past group plan.root plan.header
  pub held : IsLogHeld size past.created flushed s.suspended m v

-- one of the three, suspended or not
abbrev pub IsPoolLaid : ℕ → Moment → Shown → Past → Type 0
IsPoolLaid size m s past = IsPoolAtRest size m s past ⊎ (IsPoolBetween size m s past ⊎ IsPoolSwitched size m s past)

-- the config that a running sync writes, where its group has a new name
pub record IsSyncConfig (size : ℕ) (s : Shown) (past : Past) (group : ℕ) (content : List ℕ) : Type 0 where
  pub syncing : s.line.syncing ≡ Some group
  pub renamed : list_any is_rename (ops_of_group group past.entries) ≡ true
  pub contents : Contents
  pub replayed : replay (entries_up_to group past.entries) past.base ≡ Ok contents
  pub content_is : content ≡ config_content size s.guid group contents.name

-- all that a running pool keeps of its disk: what a read gives is fair, no config of the pool that counts is above the
-- synced group except for that of a running sync, and its views are laid
pub record IsPoolDisk (size : ℕ) (m : Moment) (s : Shown) (past : Past) : Type 0 where
  pub bytes : HasFairBytes size past.created m
  pub configs : AreConfigsUpTo size past.created (handed m) s.guid s.line.synced (IsSyncConfig size s past)
  pub laid : IsPoolLaid size m s past
