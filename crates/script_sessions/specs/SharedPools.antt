-- A pool that a session has under a lock: what is mounted there, what a command and a plan to fail make of it, and the
-- device that it gives back.
use Rattle.std.specs.Prelude.{ℕ, ◌≡◌, ◌⊎◌, IsTrue, [], true}
use Rattle.base.specs.declared.error.PoolError.TheVariants.{NoMemory}
use Rattle.base.specs.declared.step.Reply.{Reply}
use Rattle.base.specs.declared.step.Reply.TheVariants.{Refused}
use Rattle.base.specs.disk.Disk.{Disk}
use Rattle.device_model.specs.MemState.{MemState}
use Rattle.mounted.specs.ShownMounted.{shown_of_import}
use Rattle.mounted.specs.declared.mounted.Mounted.{Mounted}
use Rattle.pool_core.specs.States.{device_of}
use Rattle.pool_threads.specs.Handles.{EndsIn, IsFirstSeen, OpensBehind, ShowsMounted, moment_in, opening_view, owned_of}
use Rattle.pool_threads.specs.Views.{GrowsTo, SeenPool}
use Rattle.script_lines.specs.declared.command.PoolCommand.{PoolCommand}
use Rattle.scripts.specs.OwnPools.{MemPool}
use Rattle.script_sessions.specs.Callers.{AsksByHandle, AsksNext, LooksBehind}
use Rattle.script_sessions.specs.Plans.{change_of, is_begin, plans_after}
use Rattle.script_sessions.specs.declared.shared_pool.SharedPool.{SharedPool}
use Rattle.word_lock.specs.Seats.{seat_number, seen, turns}
use Rattle.word_lock.specs.Turns.{IsTurnHistory}

-- what the session has seen of its pool, as the last command left it
abbrev pub view_in : SharedPool → SeenPool
view_in shared = seen shared.last.seat

-- a begin, whose plan is copied, is refused for want of memory, and no step is made
abbrev pub HasNoRoom : PoolCommand → SharedPool → Reply → SharedPool → Type 0
HasNoRoom asked old reply new = (is_begin asked ≡ true) × (reply ≡ Refused NoMemory) × (new.last ≡ old.last)

-- the command is made on just what the session had seen, and what it leaves is just what the session has seen then;
-- its steps are turns of the pool's only handle
pub record AsksOwned (W : Type 0) (asked : PoolCommand) (moment : ℕ) (reply : Reply) (old new : SharedPool) : Type 0 where
  pub next : AsksNext (moment_in (owned_of old.pool)) asked moment reply (view_in old) (view_in new)
  pub by_handle : AsksByHandle W asked moment old.plans.plans.items old.pool old.last reply new.last

-- so a command is made, or a begin has no room; the pool stays, and so do the plans except for what began or ended
pub record AsksShared (W : Type 0) (asked : PoolCommand) (moment : ℕ) (reply : Reply) (old new : SharedPool) : Type 0 where
  pub asks : AsksOwned W asked moment reply old new ⊎ HasNoRoom asked old reply new
  pub same_pool : new.pool ≡ old.pool
  pub plans : new.plans.plans.items ≡ plans_after (change_of asked) reply old.plans.plans.items

-- The device of the state that the last command left: what the session had seen is the last view of the pool, to which
-- the turns of all handles lead, and those of the session's handle among them are exactly the ones that it knows of.
pub record IsDeviceIn (shared : SharedPool) (device : MemState) : Type 0 where
  pub state : MemPool
  pub device_is : device ≡ device_of state
  pub ends : EndsIn (owned_of shared.pool) state (view_in shared)
  pub history : IsTurnHistory (GrowsTo (IsTrue true)) (opening_view (owned_of shared.pool)) (seat_number shared.last.seat) (turns shared.last.seat) (view_in shared)

-- a pool that shows what was mounted of this disk, on the new one, is opened after it, with a cache of so many tree
-- blocks, and with this moment of its syncs; no transaction has begun, and its only handle has seen just that and had no
-- turn
pub record IsMountShared (old new : Disk) (mounted : Mounted) (cache_blocks moment : ℕ) (shared : SharedPool) : Type 0 where
  pub opened : OpensBehind (IsTrue true) old (shown_of_import mounted).dirty_max (opening_view (owned_of shared.pool))
  pub shown : ShowsMounted mounted cache_blocks new (opening_view (owned_of shared.pool))
  pub moment_is : moment_in (owned_of shared.pool) ≡ moment
  pub first : IsFirstSeen (owned_of shared.pool) shared.last
  pub no_plans : shared.plans.plans.items ≡ []

-- a plan to fail takes a turn of the handle, which no view shows: what the session sees of its pool stays, and so do
-- the plans of what began
pub record LooksAt (old new : SharedPool) : Type 0 where
  pub same_pool : new.pool ≡ old.pool
  pub same_plans : new.plans ≡ old.plans
  pub same_view : view_in new ≡ view_in old
  pub looked : LooksBehind old.pool old.last new.last
