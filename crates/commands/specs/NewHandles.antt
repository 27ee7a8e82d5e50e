-- What a new handle of a pool did, and what it had seen before and after it.
use Rattle.std.specs.Prelude.{ℕ, IsTrue, List, Option, Result}
use Rattle.base.specs.declared.error.PoolError.{PoolError}
use Rattle.base.specs.declared.names.ObjectId.{ObjectId}
use Rattle.base.specs.steps.Steps.{State}
use Rattle.commands.specs.Committed.{PutsBy, default_dirty_max}
use Rattle.commands.specs.declared.changes.Put.{Put}
use Rattle.device_model.specs.declared.device.SectorDevice.{Ghosts}
use Rattle.pool_threads.specs.Answers.{Sees}
use Rattle.pool_threads.specs.Handles.{IsNewHandle, OpensBehind, opening_view}
use Rattle.pool_threads.specs.declared.handle.Handle.{Handle}
use Rattle.pool_threads.specs.declared.shared.Shared.{Shared}

-- A new handle of this pool put bytes into an object, as a put by number does.
pub record PutsByNew {Dev : Type 0} {G : Ghosts Dev} (p : Shared Dev G) (n : ObjectId) (offset : Option ℕ) (bytes : List ℕ) (put : Put) (result : Result (Unit {0}) PoolError) : Type 0 where
  pub first : Handle Dev G
  pub is_new : IsNewHandle p first
  pub last : Handle Dev G
  pub did : PutsBy n offset bytes put result first last

-- The pool was opened that this device holds. So it is of the states that a new handle of it had seen first and has
-- seen last.
pub record HappensByNew {Dev : Type 0} (G : Ghosts Dev) (device : Dev) (P : State → State → Type 0) : Type 0 where
  pub pool : Shared Dev G
  pub opens : OpensBehind (IsTrue G.keeps_model) (G.disk device) default_dirty_max (opening_view pool)
  pub first : Handle Dev G
  pub is_new : IsNewHandle pool first
  pub last : Handle Dev G
  pub sees : Sees P first last
