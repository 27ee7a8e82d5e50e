-- How a pool is finished: the state in which it ended is synced, and its device comes back.
use Rattle.std.specs.Prelude.{ℕ, ◌≡◌, IsTrue, None, Ok, Err, Option, Result, Some}
use Rattle.base.specs.declared.error.PoolError.{PoolError}
use Rattle.base.specs.declared.error.PoolError.TheVariants as error
use Rattle.base.specs.declared.names.Group.{Group}
use Rattle.device_model.specs.declared.device.SectorDevice.{Ghosts}
use Rattle.pool_core.specs.declared.state.PoolState.{PoolState}
use Rattle.pool_core.specs.GroupSyncs.{SyncsOpen}
use Rattle.pool_core.specs.States.{device_of}
use Rattle.pool_threads.specs.declared.shared.Shared.{Shared}
use Rattle.pool_threads.specs.Handles.{EndsIn}
use Rattle.pool_threads.specs.Views.{GrowsTo, SeenPool}

module _ {Dev : Type 0} {G : Ghosts Dev} where
  -- The pool ended in a state, with the last view of it. A sync of its open group with this moment gave this answer, and
  -- left a state that ends the pool too, with a view that goes on from the last one. So what was acknowledged stays so,
  -- also if the sync was refused. The device is the one that it left.
  pub record SyncsAtEnd (p : Shared Dev G) (moment : ℕ) (answer : Result Group PoolError) (device : Dev) : Type 0 where
    pub ended : PoolState Dev G
    pub last : SeenPool
    pub ends : EndsIn p ended last
    pub left : PoolState Dev G
    pub syncs : SyncsOpen moment answer ended left
    pub after : SeenPool
    pub onward : GrowsTo (IsTrue G.keeps_model) last after
    pub leaves : EndsIn p left after
    pub given_back : device ≡ device_of left

  -- it was so; or there is no device, since a thread was stopped while it had the pool
  abbrev pub Finishes : Shared Dev G → ℕ → Result (Group × Dev) (PoolError × Option Dev) → Type 0
  Finishes p moment (Ok (group, device)) = SyncsAtEnd p moment (Ok group) device
  Finishes p moment (Err (e, Some device)) = SyncsAtEnd p moment (Err e) device
  Finishes p moment (Err (e, None)) = e ≡ error.Suspended
