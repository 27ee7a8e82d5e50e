-- What a copy leaves of the new pool.
use Rattle.std.specs.Prelude.{ℕ, ◌≡◌, Bool, false, true, IsTrue, List, Ok, Err, Option, Result}
use Rattle.std.specs.Io.KnownBytes.{Appends}
use Rattle.std.specs.List.{flat_map, list_all}
use Rattle.base.specs.declared.names.Group.{Group}
use Rattle.base.specs.declared.operation.Op.{Op}
use Rattle.base.specs.disk.Disk.{Disk}
use Rattle.base.specs.formats.Limits.{object_count}
use Rattle.base.specs.history.Contents.{Contents}
use Rattle.base.specs.history.History.{apply_all}
use Rattle.base.specs.history.Past.{Past}
use Rattle.base.specs.history.Sequences.{in_turn}
use Rattle.base.specs.kept.LeftDisks.{IsLeft}
use Rattle.base.specs.steps.Explains.{AreSafe, IsLeftBy}
use Rattle.running_pools.specs.LeftDevices.{IsOnlyHandle}
use Rattle.device_model.specs.declared.device.SectorDevice.{Ghosts}
use Rattle.import_replay.specs.OwnCreations.{first_contents}
use Rattle.pool_threads.specs.declared.handle.Handle.{Handle}
use Rattle.pool_threads.specs.declared.handle.LastSeen.{LastSeen}
use Rattle.pool_threads.specs.declared.shared.Shared.{Shared}
use Rattle.pool_threads.specs.Handles.{IsLeftBehind}
use Rattle.pool_threads.specs.Waits.{SyncsPool}
use Rattle.copies.specs.Copies.{Chain, CopiesObjects, IsObjectStep, ObjectStep, is_copied, object_lines, object_writes}
use Rattle.copies.specs.Stops.{StaysAlone}
use Rattle.copies.specs.declared.stop.Stop.{Stop}

-- The disk holds these transactions upon an empty pool of this name: whatever a crash leaves of it, an import finds what
-- they make of it, each of them.
abbrev pub HoldsTransactions : List ℕ → List (List Op) → Disk → Type 0
HoldsTransactions name all disk = ∥ ((past : Past) × ((c : Contents) → IsLeftBy past c → in_turn apply_all all (first_contents name) ≡ Ok c) × AreSafe disk past × IsLeft past disk) ∥₁

-- A copy of all objects came to its end: what became of each of them, and its lines. If damages are not passed over, all
-- was copied.
pub record CopiesAll (keeps : Bool) (disk : Disk) (skips whole : Bool) (before after : Option (List ℕ)) : Type 0 where
  pub steps : List ObjectStep
  pub chain : Chain (IsObjectStep keeps disk) 0 steps object_count
  pub written : Appends before after (flat_map object_lines steps)
  pub whole_is : whole ≡ list_all is_copied steps
  pub strict : skips ≡ false → whole ≡ true

-- and this is what the new pool's device holds, if it keeps the model
pub record IsCopy {Dev : Type 0} (N : Ghosts Dev) (keeps : Bool) (disk : Disk) (name : List ℕ) (skips whole : Bool) (new : Dev) (before after : Option (List ℕ)) : Type 0 where
  pub all : CopiesAll keeps disk skips whole before after
  pub holds : IsTrue N.keeps_model → HoldsTransactions name (flat_map object_writes all.steps) (N.disk new)

module _ {Dev : Type 0} {G : Ghosts Dev} where
  -- the handle copied all objects, and synced the pool
  pub record CopiesAndSyncs (keeps : Bool) (disk : Disk) (skips whole : Bool) (old new : Handle Dev G) (before after : Option (List ℕ)) : Type 0 where
    pub done : Handle Dev G
    pub copies : CopiesObjects keeps disk skips 0 object_count whole old done before after
    pub group : Group
    pub syncs : SyncsPool (Ok group) done new

  abbrev pub CopiesIfDone : Bool → Disk → Bool → Result Bool Stop → Handle Dev G → Handle Dev G → Option (List ℕ) → Option (List ℕ) → Type 0
  CopiesIfDone keeps disk skips (Ok whole) old new before after = CopiesAndSyncs keeps disk skips whole old new before after
  CopiesIfDone keeps disk skips (Err stop) old new before after = Unit {0}

  -- the only handle of this pool did so, unless the copy ended before, and this is what it had seen as it left
  pub record CopiesAndLeaves (keeps : Bool) (disk : Disk) (skips : Bool) (p : Shared Dev G) (result : Result Bool Stop) (left : LastSeen Dev G) (before after : Option (List ℕ)) : Type 0 where
    pub first : Handle Dev G
    pub only : IsOnlyHandle p first
    pub last : Handle Dev G
    pub stays : StaysAlone first last
    pub did : CopiesIfDone keeps disk skips result first last before after
    pub behind : IsLeftBehind last left
