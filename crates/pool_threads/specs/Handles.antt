-- What contracts say of a pool under its lock, and of its handles.
use Rattle.std.specs.Prelude.{ℕ, ◌≡◌, ◌≤◌, ◌⊎◌, ◌+◌, ◌/◌, ◌++◌, ◌&&◌, Bool, IsTrue, List, [], ◌∷◌, length, nat_le, true}
use Rattle.base.specs.kept.CrashRule.{KeepsOwn}
use Rattle.base.specs.kept.Imports.{IsImportOf, is_dirty_max_allowed}
use Rattle.base.specs.declared.error.PoolError.{PoolError}
use Rattle.base.specs.declared.error.PoolError.TheVariants.{NoMemory}
use Rattle.base.specs.disk.Disk.{Disk, bytes_of, certain}
use Rattle.base.specs.history.Past.{Past, new_past}
use Rattle.base.specs.steps.Explains as every
use Rattle.base.specs.steps.Explains.{AreSafe, IsLeftBy}
use Rattle.device_model.specs.declared.device.SectorDevice.{Ghosts}
use Rattle.import_replay.specs.ImportRefusals.{IsReadingRefusal, IsReason, IsSyncRefusal}
use Rattle.import_replay.specs.ImportStops.{IsImportStopped}
use Rattle.import_replay.specs.ImportSyncs.{IsImportSynced}
use Rattle.mounted.specs.ShownMounted.{shown_of_import}
use Rattle.import_replay.specs.RunStarts.{StartsRun}
use Rattle.mounted.specs.declared.mounted.Mounted.{Mounted}
use Rattle.pool_core.specs.declared.state.PoolState.{PoolState}
use Rattle.pool_core.specs.KeptSafe.{disk_of}
use Rattle.pool_core.specs.States.{cache_room_of, device_of, shown}
use Rattle.pool_threads.specs.declared.handle.Handle.{Handle}
use Rattle.pool_threads.specs.declared.handle.LastSeen.{LastSeen}
use Rattle.pool_threads.specs.declared.opened.Opened.{Opened}
use Rattle.pool_threads.specs.declared.owned.OwnedPool.{OwnedPool}
use Rattle.pool_threads.specs.declared.pool.Pool.{Pool}
use Rattle.pool_threads.specs.declared.shared.Shared.{Shared}
use Rattle.pool_threads.specs.Views.{Explains, GrowsTo, IsFollowed, SeenPool, since, view_behind_disk, viewed_state}
use Rattle.pool_threads.specs.Views.CrashRule.{Behind}
use Rattle.base.specs.kept.LeftDisks.{IsLeft}
use Rattle.word_lock.specs.declared.rule.Turn.{Turn}
use Rattle.word_lock.specs.Seats.{HasMetNone, IsAsBefore, kin, lock_table, opening, seat_number, seat_table, seen, taken, turns}
use Rattle.word_lock.specs.Turns.{IsTurnHistory, turn}

module _ {Dev : Type 0} {G : Ghosts Dev} where
  -- what the handles of a pool share
  abbrev pub shared_of : Pool Dev G → Shared Dev G
  shared_of p = p.shared

  -- what is told of its import
  abbrev pub opened_in : Pool Dev G → Opened
  opened_in p = p.opened

  -- so it is of a pool of one owner
  abbrev pub owned_of : OwnedPool Dev G → Shared Dev G
  owned_of p = p.shared

  -- the view with which the pool was opened
  abbrev pub opening_view : Shared Dev G → SeenPool
  opening_view p = opening p.lock

  -- the moment of the syncs that its handles start
  abbrev pub moment_in : Shared Dev G → ℕ
  moment_in p = p.moment

  -- what the handle has seen
  abbrev pub view_seen : Handle Dev G → SeenPool
  view_seen h = seen h.seat

  -- the turns that the handle has had, the latest last
  abbrev pub turns_of : Handle Dev G → List (Turn SeenPool)
  turns_of h = turns h.seat

  -- the turns of the handles that it has joined
  abbrev pub taken_by : Handle Dev G → List (Turn SeenPool)
  taken_by h = taken h.seat

  -- The handle's number: 0 while it is the only one that its pool ever had, and 1 for a new one of the pool. Each split
  -- adds 1, and the new handle has the same; a join adds the other's. Nothing makes it less.
  abbrev pub kin_of : Handle Dev G → ℕ
  kin_of h = kin h.seat

  -- the moment of the syncs that the handle starts
  abbrev pub moment_of : Handle Dev G → ℕ
  moment_of h = h.shared.now.moment

  -- the handle is one of this pool
  abbrev pub IsOf : Shared Dev G → Handle Dev G → Type 0
  IsOf p h = seat_table h.seat ≡ lock_table p.lock

  -- both handles are of one pool
  abbrev pub IsOfSamePool : Handle Dev G → Handle Dev G → Type 0
  IsOfSamePool h g = seat_table g.seat ≡ seat_table h.seat

  -- the handle still is one of this pool, whose moment its syncs carry
  abbrev pub StaysInPool : Handle Dev G → Handle Dev G → Type 0
  StaysInPool h g = IsOfSamePool h g × (moment_of g ≡ moment_of h)

  -- nothing of the handle has changed
  abbrev pub IsUnchanged : Handle Dev G → Handle Dev G → Type 0
  IsUnchanged h g = IsAsBefore h.seat g.seat × (moment_of g ≡ moment_of h)

  -- a handle of this pool, besides others, that has had no turn, and has seen at least what the pool was opened with;
  -- its syncs carry the pool's moment
  pub record IsNewHandle (p : Shared Dev G) (h : Handle Dev G) : Type 0 where
    pub of : IsOf p h
    pub moment : moment_of h ≡ moment_in p
    pub onward : GrowsTo (IsTrue G.keeps_model) (opening_view p) (view_seen h)
    pub no_turn : turns_of h ≡ []
    pub none_taken : taken_by h ≡ []
    pub number : kin_of h ≡ 1

  -- one more handle was split off, which the handle's number shows, and nothing else of it has changed
  pub record HasSplit (old new : Handle Dev G) : Type 0 where
    pub same_pool : StaysInPool old new
    pub seen : view_seen new ≡ view_seen old
    pub turns : turns_of new ≡ turns_of old
    pub taken : taken_by new ≡ taken_by old
    pub number : kin_of new ≡ kin_of old + 1

  -- another handle of the same pool, which has seen the same and had no turn
  pub record IsSplitOff (old other : Handle Dev G) : Type 0 where
    pub same_pool : StaysInPool old other
    pub seen : view_seen other ≡ view_seen old
    pub no_turn : turns_of other ≡ []
    pub none_taken : taken_by other ≡ []
    pub number : kin_of other ≡ kin_of old + 1

  -- The handle has seen what both had seen. Its own turns are the same. Those of the other, and those that the other
  -- had taken over, follow in its list of taken turns.
  pub record HasJoined (old added new : Handle Dev G) : Type 0 where
    pub same_pool : StaysInPool old new
    pub own : GrowsTo (IsTrue G.keeps_model) (view_seen old) (view_seen new)
    pub other : GrowsTo (IsTrue G.keeps_model) (view_seen added) (view_seen new)
    pub turns : turns_of new ≡ turns_of old
    pub taken : taken_by new ≡ taken_by old ++ taken_by added ++ turns_of added
    pub number : kin_of new ≡ kin_of old + kin_of added

  -- In one turn and no other the handle left what it saw as it was. The only handle of a pool saw what it had seen.
  pub record HasLooked (old new : Handle Dev G) : Type 0 where
    pub same_pool : StaysInPool old new
    pub onward : GrowsTo (IsTrue G.keeps_model) (view_seen old) (view_seen new)
    pub turn : turns_of new ≡ turns_of old ++ turn (view_seen new) (view_seen new) ∷ []
    pub met_none : HasMetNone old.seat new.seat
    pub alone : kin_of old ≡ 0 → view_seen new ≡ view_seen old

  -- the handle had one turn and no other, and met no other handle
  abbrev pub TakesOneTurn : Handle Dev G → Handle Dev G → Type 0
  TakesOneTurn old new = (took : SeenPool) × (turns_of new ≡ turns_of old ++ turn took (view_seen new) ∷ []) × HasMetNone old.seat new.seat

  -- so it had one turn at last, after others
  abbrev pub TakesTurns : Handle Dev G → Handle Dev G → Type 0
  TakesTurns old new = (tries : List (Turn SeenPool)) × (took : SeenPool) × (turns_of new ≡ (turns_of old ++ tries) ++ turn took (view_seen new) ∷ []) × HasMetNone old.seat new.seat

  -- the handle had so many turns more
  abbrev pub TakesSoMany : ℕ → Handle Dev G → Handle Dev G → Type 0
  TakesSoMany count old new = length (turns_of new) ≡ length (turns_of old) + count

  -- it had so many at most
  abbrev pub TakesAtMost : ℕ → Handle Dev G → Handle Dev G → Type 0
  TakesAtMost count old new = length (turns_of new) ≤ length (turns_of old) + count

  -- what a handle had seen as it left its pool, and the turns that it had had
  abbrev pub IsLeftBehind : Handle Dev G → LastSeen Dev G → Type 0
  IsLeftBehind h l = l.seat ≡ h.seat

  -- the number of that handle
  abbrev pub kin_left : LastSeen Dev G → ℕ
  kin_left l = kin l.seat

  -- that handle was one of this pool
  abbrev pub WasOf : Shared Dev G → LastSeen Dev G → Type 0
  WasOf p l = seat_table l.seat ≡ lock_table p.lock

  -- what the only handle of a pool has seen before its first turn: the view with which the pool was opened
  pub record IsFirstSeen (p : Shared Dev G) (l : LastSeen Dev G) : Type 0 where
    pub of : WasOf p l
    pub number : kin_left l ≡ 0
    pub seen : seen l.seat ≡ opening_view p
    pub no_turn : turns l.seat ≡ []
    pub none_taken : taken l.seat ≡ []

  -- a handle of this pool that has seen and had just what that one had, and starts syncs with the pool's moment
  pub record IsBackIn (p : Shared Dev G) (l : LastSeen Dev G) (h : Handle Dev G) : Type 0 where
    pub moment : moment_of h ≡ moment_in p
    pub seat_is : h.seat ≡ l.seat

  -- every fair image that a crash now may leave of the state's disk mounts the replay of a conflict-closed cut of the
  -- entries of this past with every acknowledged one; and a run with this past left the disk, so a later run goes on
  -- from there
  pub record LeavesCuts (s : PoolState Dev G) (past : Past) : Type 0 where
    pub safe : AreSafe (disk_of s) past
    pub left : IsLeft past (disk_of s)

  -- The view explains the state, and goes on from the one with which the pool was opened. If the crash rule is followed
  -- over a device that keeps the model, the state leaves cuts of its past.
  pub record EndsIn (p : Shared Dev G) (s : PoolState Dev G) (v : SeenPool) : Type 0 where
    pub explains : Explains s v
    pub onward : GrowsTo (IsTrue G.keeps_model) (opening_view p) v
    pub cuts : IsTrue G.keeps_model → (created : ℕ) → IsFollowed (opening_view p).rule created → ∥ LeavesCuts s (since created v.past) ∥₁

  -- a pool ended in this state
  abbrev pub IsLaterState : Shared Dev G → PoolState Dev G → Type 0
  IsLaterState p s = (v : SeenPool) × EndsIn p s v

  -- A pool ended in this state, after what a handle had seen: the turns of all handles lead to the last view, and those
  -- of this handle among them are exactly the ones that it knows of. After the only handle it ended in what that had
  -- seen.
  pub record IsLastState (p : Shared Dev G) (l : LastSeen Dev G) (s : PoolState Dev G) : Type 0 where
    pub last : SeenPool
    pub ends : EndsIn p s last
    pub onward : GrowsTo (IsTrue G.keeps_model) (seen l.seat) last
    pub history : IsTurnHistory (GrowsTo (IsTrue G.keeps_model)) (opening_view p) (seat_number l.seat) (turns l.seat) last
    pub alone : kin_left l ≡ 0 → last ≡ seen l.seat

-- how many tries of a lock fit in a limit of so many nanoseconds: one at once, and one after each half millisecond
abbrev pub tries_within : ℕ → ℕ
tries_within limit = limit / 500_000 + 1

-- whichever run left the old disk, it left the new one too
abbrev pub LeavesSame : Disk → Disk → Type 0
LeavesSame old new = (past : Past) → IsLeft past old → IsLeft past new

-- what an import of the old disk gives with what it mounted: a run starts from what that disk holds, and what was left
-- on it is left on the new one
pub record StartsBehind (old : Disk) (m : Mounted) (new : Disk) : Type 0 where
  pub starts : StartsRun old (shown_of_import m).dirty_max new m
  pub own : KeepsOwn old new

-- the view shows what an import mounted, with a cache of so many tree blocks, on this disk
pub record ShowsMounted (m : Mounted) (cache_blocks : ℕ) (disk : Disk) (v : SeenPool) : Type 0 where
  pub shown : (viewed_state v).shown ≡ shown_of_import m
  pub cache_is : v.cache_room ≡ cache_blocks
  pub disk_is : v.disk ≡ disk

-- whether so many tree blocks may be the most that stay in memory in a pool that threads share: up to 1 GiB
abbrev pub is_shared_cache_allowed : ℕ → Bool
is_shared_cache_allowed count = nat_le 1 count && nat_le count 262144

-- whether a pool that threads share is opened with both limits
abbrev pub are_shared_limits_allowed : (dirty_max cache_blocks : ℕ) → Bool
are_shared_limits_allowed dirty_max cache_blocks = is_shared_cache_allowed cache_blocks && is_dirty_max_allowed dirty_max

-- at most so many tree blocks that were read may stay in memory, a number that is allowed
abbrev pub HasCacheOf : ℕ → SeenPool → Type 0
HasCacheOf cache_blocks v = (is_shared_cache_allowed cache_blocks ≡ true) × (v.cache_room ≡ cache_blocks)

-- what is told of an import
abbrev pub opened_of : Mounted → Opened
opened_of m = record { guid = m.guid; group = m.group; import_number = m.import_number; records = m.records }

-- The view shows what one import of the old disk mounted, with this moment in its uberblocks, and its disk is the one
-- that the import left. It replayed the records of the log that the disk had, and this is told of it.
pub record ShowsImport (moment : ℕ) (old : Disk) (told : Opened) (v : SeenPool) : Type 0 where
  pub mounted : Mounted
  pub told_is : told ≡ opened_of mounted
  pub replayed : IsImportOf (bytes_of old.now) (bytes_of v.disk.now) mounted.dirty_max mounted.records (shown_of_import mounted)
  pub synced : IsImportSynced old v.disk moment mounted
  pub shown : (viewed_state v).shown ≡ shown_of_import mounted

-- what a refused import tells of a disk's image, and leaves of the disk: it as it was, flushed, or what its calls
-- before the refused one made of it
pub record IsLeftByRefused (moment : ℕ) (old : Disk) (e : PoolError) (new : Disk) : Type 0 where
  pub reason : IsReason (bytes_of old.now) e
  pub unchanged : IsReadingRefusal e → new ≡ certain (bytes_of old.now) old
  pub stopped : IsSyncRefusal e → IsImportStopped old new moment e

-- what a refused open leaves of it: that, or, if there is no memory to share the pool, what the one import made of it
abbrev pub IsLeftByOpen : ℕ → Disk → PoolError → Disk → Type 0
IsLeftByOpen moment old e new = IsLeftByRefused moment old e new ⊎ ((e ≡ NoMemory) × ((mounted : Mounted) × IsImportSynced old new moment mounted))

-- The view of a pool as it is imported from a disk: nothing happened since, and whichever run left the disk, the
-- contents are what it left: the replay of a cut of its entries with every acknowledged one. From there on the crash
-- rule is followed, and one history explains the pool.
pub record OpensBehind (keeps : Type 0) (old : Disk) (dirty_max : ℕ) (v : SeenPool) : Type 0 where
  pub rule : v.rule ≡ Behind old
  pub anew : v.past ≡ new_past v.past.base v.past.created dirty_max
  pub shows : (viewed_state v).shown.contents ≡ v.past.base
  pub left : keeps → (past : Past) → IsLeft past old → IsLeftBy past v.past.base
  pub explained : keeps → (created : ℕ) → IsFollowed v.rule created → ∥ every.Explains (Unit {0}) v.disk (viewed_state v).shown (since created v.past) ∥₁

-- The pool that an import of this disk gave, to be opened: the view of it in which nothing has happened since explains
-- it, and follows the crash rule after whichever run left the disk. It shows what was mounted, with a cache of so many
-- tree blocks, over the device that the import left.
pub record IsReadyToOpen {Dev : Type 0} {G : Ghosts Dev} (old : Disk) (m : Mounted) (cache_blocks : ℕ) (device : Dev) (s : PoolState Dev G) : Type 0 where
  pub explains : Explains s (view_behind_disk s old)
  pub opens : OpensBehind (IsTrue G.keeps_model) old (shown_of_import m).dirty_max (view_behind_disk s old)
  pub shown_is : shown s ≡ shown_of_import m
  pub cache_is : cache_room_of s ≡ cache_blocks
  pub device_is : device_of s ≡ device
