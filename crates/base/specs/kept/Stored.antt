-- What a pool keeps of its device: the synced tree with its pointers, the free blocks, of a running sync the tree, the
-- blocks and the uberblock that it writes, and what the labels show.
use Rattle.std.specs.Prelude.{ℕ, ◌≡◌, ◌≢◌, ◌≤◌, ◌<◌, Bool, true, false, List, map, length, slice_get, Option, Some, None, Ok}
use Rattle.std.specs.Ordering.{nat_cmp}
use Rattle.std.specs.FinMap.{FinMap}
use Rattle.base.specs.declared.pointer.Pointer.{Pointer}
use Rattle.base.specs.declared.step.Reply.{Reply}
use Rattle.base.specs.declared.step.Reply.TheVariants as reply
use Rattle.base.specs.history.Contents.{Contents}
use Rattle.base.specs.formats.Fields.{part, number_at, no_pointer}
use Rattle.base.specs.formats.Geometry.{block_size, block_count, IsGeometry, IsBlockAddress}
use Rattle.base.specs.history.History.{replay, entries_up_to}
use Rattle.base.specs.formats.Versions.{written_version}
use Rattle.base.specs.formats.Blocks.{Frame}
use Rattle.base.specs.steps.Logs.{Taken}
use Rattle.base.specs.tree.Places.{Place, IsPlace, IsInTree}
use Rattle.base.specs.tree.Places.Place.{Root}
use Rattle.base.specs.kept.PlacedTrees.{HoldsTree}
use Rattle.base.specs.kept.PlannedTrees.{NewBlock, IsTreePlan, IsBlockWritten, AreFreed}
use Rattle.base.specs.history.Past.{Past}
use Rattle.base.specs.formats.Uberblocks.{IsUberblock}
use Rattle.base.specs.steps.Shown.{Shown, SyncPlan, uberblock_of}
pub use Rattle.base.specs.kept.SyncCalls.{NewTree, Advances, total_calls}
use Rattle.base.specs.kept.LabelConfigs.{HoldConfigs, WritesName}
use Rattle.base.specs.kept.ShownLabels.{AreLabelsShown}
use Rattle.base.specs.steps.Exact.{AreFree, IsInLog, log_addresses}
use Rattle.base.specs.kept.LogSteps.{IsHeaderIn, IsPackedBlock}
use Rattle.base.specs.kept.Views.{Logged}
use Rattle.base.specs.disk.Disk.{put}
use Rattle.base.specs.steps.Tables.{AreTablesExplained}
use Rattle.base.specs.steps.Steps.{State}

-- whole blocks of the area, no two at one address
pub record AreBlocks (blocks : ℕ) (bs : List NewBlock) : Type 0 where
  pub in_area : (i : ℕ) (b : NewBlock) → slice_get bs i ≡ Some b → IsBlockAddress blocks b.address
  pub whole : (i : ℕ) (b : NewBlock) → slice_get bs i ≡ Some b → length b.content ≡ block_size
  pub apart : (i j : ℕ) (b c : NewBlock) → slice_get bs i ≡ Some b → slice_get bs j ≡ Some c → b.address ≡ c.address → i ≡ j

-- none of the blocks is at this address
abbrev pub IsUnwritten : List NewBlock → ℕ → Type 0
IsUnwritten bs address = (i : ℕ) (b : NewBlock) → slice_get bs i ≡ Some b → b.address ≢ address

-- none of the blocks is at an address that the old tree has
abbrev pub LeavesTree : List NewBlock → (Place → Pointer) → Type 0
LeavesTree bs old = (place : Place) → IsPlace place → old place ≢ no_pointer → IsUnwritten bs (old place).address

-- each new block is one of the new tree
abbrev pub AreUsed : List NewBlock → (Place → Pointer) → Type 0
AreUsed bs new = (i : ℕ) (b : NewBlock) → slice_get bs i ≡ Some b → (place : Place) × IsPlace place × ((new place).address ≡ b.address)

-- the guid and the blocks of a pool, of the version that is written, with births up to a group
abbrev pub frame_at : Shown → ℕ → Frame
frame_at s group = record { version = written_version; guid = s.guid; blocks = s.blocks; group = group }

-- The bytes hold the synced tree with these pointers, and the free blocks are the others but for the log, with its next
-- block: these lie in the area, each at an address of its own, and none is of the tree.
pub record IsStored (now : List ℕ) (s : Shown) (pointers : Place → Pointer) (past : Past) : Type 0 where
  pub synced : Contents
  pub replayed : replay (entries_up_to s.line.synced past.entries) past.base ≡ Ok synced
  pub blocks : s.blocks ≡ block_count (length now)
  pub tree : HoldsTree now (frame_at s s.line.synced) pointers synced.objects
  pub root : pointers Root ≡ s.root
  pub free : AreFree now s
  pub log_in_area : (address : ℕ) → IsInLog s.log address → IsBlockAddress s.blocks address
  pub log_places : (i j address : ℕ) → slice_get (log_addresses s.log) i ≡ Some address → slice_get (log_addresses s.log) j ≡ Some address → i ≡ j
  pub log_apart : (address : ℕ) → IsInLog s.log address → IsInTree now s.root address → ⊥

-- from the tree of the old pointers, of the objects before, a sync makes one of the new pointers and the objects after
-- by writing these blocks
pub record IsPlannedSync (frame : Frame) (old new : Place → Pointer) (bs : List NewBlock) (before after : FinMap nat_cmp (List ℕ)) (plan : SyncPlan) : Type 0 where
  pub planned : IsTreePlan bs frame old new before after
  pub taken : map (λ (b : NewBlock). b.address) bs ≡ plan.taken
  pub whole : (i : ℕ) (b : NewBlock) → slice_get bs i ≡ Some b → length b.content ≡ block_size
  pub freed : AreFreed old new plan.freed
  pub used : AreUsed bs new
  pub root : new Root ≡ plan.root

-- The sync of the syncing group runs: it makes the tree of its plan's contents, none of its blocks is one of the old
-- tree or of the log, none is a log block, and those are written whose calls were made. Its uberblock is the one of its
-- plan, and its config the one of its name.
pub record IsSyncing (now : List ℕ) (s : Shown) (old : Place → Pointer) (new : NewTree) (past : Past) : Type 0 where
  pub group : ℕ
  pub plan : SyncPlan
  pub syncing : s.line.syncing ≡ Some group
  pub running : s.sync ≡ Some plan
  pub synced : Contents
  pub replayed : replay (entries_up_to s.line.synced past.entries) past.base ≡ Ok synced
  pub planned : IsPlannedSync (frame_at s group) old new.pointers new.blocks synced.objects plan.contents.objects plan
  pub are : AreBlocks s.blocks new.blocks
  pub leaves : LeavesTree new.blocks old
  pub log_apart : (address : ℕ) → IsInLog s.log address → IsUnwritten new.blocks address
  pub not_log : (i : ℕ) (b : NewBlock) → slice_get new.blocks i ≡ Some b → number_at b.content 0 ≢ 6
  pub header : IsHeaderIn plan.header s.log
  pub slot : IsUberblock new.slot (uberblock_of s group plan)
  pub named : WritesName new.stages (length now) s.guid group synced.name plan.contents.name
  pub done : new.done ≤ total_calls new
  pub written : (i : ℕ) (b : NewBlock) → i < new.done → slice_get new.blocks i ≡ Some b → IsBlockWritten now s.blocks b

-- the sync that runs, or that none does
abbrev pub RunsAs : List ℕ → Shown → (Place → Pointer) → Option NewTree → Past → Type 0
RunsAs now s old None past = s.sync ≡ None
RunsAs now s old (Some new) past = IsSyncing now s old new past

-- all of it, with what the labels show and which configs they have
pub record IsKept (now : List ℕ) (s : Shown) (pointers : Place → Pointer) (running : Option NewTree) (past : Past) : Type 0 where
  pub stored : IsStored now s pointers past
  pub sync : RunsAs now s pointers running past
  pub geometry : IsGeometry (length now)
  pub labels : AreLabelsShown now s running past
  pub configs : HoldConfigs now s running past

-- of so many blocks each is the same in both images
pub record SameBlocks (blocks : ℕ) (before after : List ℕ) : Type 0 where
  pub size : length after ≡ length before
  pub each : (address : ℕ) → IsBlockAddress blocks address → part after address block_size ≡ part before address block_size

-- whether a reply says that the sync of a group was started, or is done: what is kept of the device turns then
abbrev pub is_turn : Reply → Bool
is_turn (reply.Syncing group) = true
is_turn (reply.Synced group) = true
is_turn _ = false

-- a pool over its device: what is shown with its past, the bytes, the pointers of the synced tree, and the running sync
pub record Held : Type 0 where
  pub state : State
  pub now : List ℕ
  pub pointers : Place → Pointer
  pub running : Option NewTree

-- its past explains it, and what it keeps of its device is so
pub record IsHeld (h : Held) : Type 0 where
  pub explained : AreTablesExplained h.state.shown h.state.past
  pub kept : IsKept h.now h.state.shown h.pointers h.running h.state.past

-- the sync of a group was started: its tree and blocks are planned from the stored tree, and nothing is written
pub record Starts (group : ℕ) (old new : Held) : Type 0 where
  pub same : new.now ≡ old.now
  pub pointers : new.pointers ≡ old.pointers
  pub tree : Place → Pointer
  pub bs : List NewBlock
  pub slot : List ℕ
  pub stages : Option (List ℕ)
  pub plan : SyncPlan
  pub running : new.running ≡ Some (record { pointers = tree; blocks = bs; slot = slot; stages = stages; done = 0 })
  pub plan_is : new.state.shown.sync ≡ Some plan
  pub slot_is : IsUberblock slot (uberblock_of old.state.shown group plan)
  pub planned : (x : IsHeld old) → IsPlannedSync (frame_at old.state.shown group) old.pointers tree bs x.kept.stored.synced.objects plan.contents.objects plan
  pub named : (x : IsHeld old) → WritesName stages (length old.now) old.state.shown.guid group x.kept.stored.synced.name plan.contents.name

-- the next device call of a running sync was made
pub record IsCallMade (old new : Held) (after : NewTree) : Type 0 where
  pub before : NewTree
  pub running : old.running ≡ Some before
  pub group : ℕ
  pub syncing : old.state.shown.line.syncing ≡ Some group
  pub advances : Advances group old.now new.now before after

-- the log's next block was written, with what is taken for it, and this address is the one after its own
pub record IsLogWritten (old new : Held) : Type 0 where
  pub taken : Taken
  pub address : ℕ
  pub block : Logged
  pub packed : IsPackedBlock old.state.shown taken address block
  pub now_is : new.now ≡ put old.state.shown.log.next.address block.content old.now
  pub pointers : new.pointers ≡ old.pointers
  pub running : new.running ≡ old.running

-- how a step moves the bytes, the pointers and the running sync, by its reply
abbrev pub Moves : Reply → Held → Held → Type 0
Moves (reply.Syncing group) old new = Starts group.0 old new
Moves reply.More old new = (after : NewTree) × IsCallMade old new after × (new.pointers ≡ old.pointers) × (new.running ≡ Some after)
Moves (reply.Synced group) old new = (after : NewTree) × IsCallMade old new after × (after.done ≡ total_calls after) × (new.pointers ≡ after.pointers) × (new.running ≡ None)
Moves (reply.Logged count) old new = IsLogWritten old new
Moves _ old new = (new.now ≡ old.now) × (new.pointers ≡ old.pointers) × (new.running ≡ old.running)
