-- What a closed pool leaves on its device: an import of whatever a crash leaves of it finds what its run acknowledged.
use Rattle.std.specs.Prelude.{ℕ, ◌≡◌, ◌⊎◌, [], IsTrue, Some, slice_get, true}
use Rattle.base.specs.disk.Disk.{Disk}
use Rattle.base.specs.history.Contents.{Contents}
use Rattle.base.specs.history.History.{Entry}
use Rattle.base.specs.history.Past.{Past}
use Rattle.base.specs.kept.LeftDisks.{IsLeft}
use Rattle.base.specs.steps.Explains.{AreSafe, IsLeftBy}
use Rattle.base.specs.steps.Locks.{is_in}
use Rattle.device_model.specs.declared.device.SectorDevice.{Ghosts}
use Rattle.pool_core.specs.declared.state.PoolState.{PoolState}
use Rattle.pool_core.specs.States.{device_of}
use Rattle.pool_threads.specs.declared.handle.Handle.{Handle}
use Rattle.pool_threads.specs.declared.handle.LastSeen.{LastSeen}
use Rattle.pool_threads.specs.declared.shared.Shared.{Shared}
use Rattle.pool_threads.specs.Handles.{IsLastState, IsLaterState, IsOf, LeavesSame, kin_of, moment_in, moment_of, opening_view, taken_by, turns_of, view_seen}

-- A run of the same pool, which began with what the earlier one left, has left the disk. Each fair image of a crash
-- mounts a cut of its entries, with every acknowledged one, and a later run goes on from there.
pub record IsLeftUpon (earlier later : Past) (disk : Disk) : Type 0 where
  pub created : later.created ≡ earlier.created
  pub base : IsLeftBy earlier later.base
  pub safe : AreSafe disk later
  pub left : IsLeft later disk

-- whichever run left the old disk, one upon it has left the new one, and this is so of its past
abbrev pub LeavesRunUpon : (Past → Type 0) → Disk → Disk → Type 0
LeavesRunUpon P old new = (past : Past) → IsLeft past old → ∥ ((later : Past) × P later × IsLeftUpon past later new) ∥₁

-- so it is, and this is so of the contents with which that run began, and of any that an import finds after it
abbrev pub LeavesContents : (Contents → Contents → Type 0) → Disk → Disk → Type 0
LeavesContents P = LeavesRunUpon (λ later. (c : Contents) → IsLeftBy later c → P later.base c)

-- each entry of the earlier past is one of the later past, and is acknowledged there
abbrev pub HasAllOf : Past → Past → Type 0
HasAllOf earlier later = (ordinal : ℕ) (e : Entry) → slice_get earlier.entries ordinal ≡ Some e → (slice_get later.entries ordinal ≡ Some e) × (is_in ordinal later.acknowledged ≡ true)

module _ {Dev : Type 0} {G : Ghosts Dev} where
  -- the only handle that a pool ever had, before its first turn: it has seen just what the pool was opened with
  pub record IsOnlyHandle (p : Shared Dev G) (h : Handle Dev G) : Type 0 where
    pub of : IsOf p h
    pub moment : moment_of h ≡ moment_in p
    pub seen : view_seen h ≡ opening_view p
    pub no_turn : turns_of h ≡ []
    pub none_taken : taken_by h ≡ []
    pub number : kin_of h ≡ 0

  -- the pool was closed after what this handle had seen as it left, and this is its device
  pub record ClosesAfter (p : Shared Dev G) (last : LastSeen Dev G) (device : Dev) : Type 0 where
    pub state : PoolState Dev G
    pub ends : IsLastState p last state
    pub device_is : device ≡ device_of state

  -- the pool was closed, and this is its device
  abbrev pub Closes : Shared Dev G → Dev → Type 0
  Closes p device = (state : PoolState Dev G) × IsLaterState p state × (device ≡ device_of state)

module _ {Dev : Type 0} (G : Ghosts Dev) where
  -- If a device keeps the disk model, a run upon what it held has left it so, with such a past.
  abbrev pub HoldsRunUpon : (Past → Type 0) → Dev → Dev → Type 0
  HoldsRunUpon P device after = IsTrue G.keeps_model → LeavesRunUpon P (G.disk device) (G.disk after)

  -- If it does, this is so of what an import of it finds, and of what it held.
  abbrev pub HoldsContents : (Contents → Contents → Type 0) → Dev → Dev → Type 0
  HoldsContents P device after = IsTrue G.keeps_model → LeavesContents P (G.disk device) (G.disk after)

  -- If it does, it still holds what it held, or a run upon that has left it so.
  abbrev pub StillHolds : (Contents → Contents → Type 0) → Dev → Dev → Type 0
  StillHolds P device after = IsTrue G.keeps_model → LeavesSame (G.disk device) (G.disk after) ⊎ LeavesContents P (G.disk device) (G.disk after)

  -- so it does, whatever its run did
  abbrev pub LosesNothing : Dev → Dev → Type 0
  LosesNothing = StillHolds (λ base c. Unit {0})
