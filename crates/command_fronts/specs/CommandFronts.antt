-- What a power failure leaves of the commands `put` and `rm` by number: the first of their transactions, in order.
use Rattle.std.specs.Prelude.{ℕ, ◌≡◌, ◌≤◌, ◌⊎◌, IsTrue, List, [], ◌∷◌, Ok, Option, Result, length, take}
use Rattle.base.specs.declared.error.PoolError.{PoolError}
use Rattle.base.specs.declared.names.ObjectId.{ObjectId}
use Rattle.base.specs.declared.operation.Op.{Op}
use Rattle.base.specs.declared.operation.Op.TheVariants.{Remove}
use Rattle.base.specs.disk.Fairness.{LeavesFairSince}
use Rattle.base.specs.history.Contents.{Contents}
use Rattle.base.specs.history.History.{apply_all}
use Rattle.base.specs.history.Past.{Past}
use Rattle.base.specs.history.Sequences.{in_turn}
use Rattle.base.specs.kept.LeftDisks.{IsLeft}
use Rattle.base.specs.steps.Explains.{IsLeftBy}
use Rattle.base.specs.tree.Mount.{MountsTo}
use Rattle.commands.specs.Committed.{PutsOn, RemovesWith}
use Rattle.commands.specs.LeftContents.{HasPut, HasRemoved}
use Rattle.commands.specs.Puts.{IsStartFor, put_transactions}
use Rattle.device_model.specs.declared.device.SectorDevice.{Ghosts}
use Rattle.pool_threads.specs.declared.handle.Handle.{Handle}
use Rattle.pool_threads.specs.declared.shared.Shared.{Shared}
use Rattle.pool_threads.specs.Handles.{opening_view, view_seen}
use Rattle.running_pools.specs.LeftDevices.{HoldsContents}

-- the contents are what the first so many of these transactions make of the base
pub record IsAfterFirst (all : List (List Op)) (base contents : Contents) : Type 0 where
  pub count : ℕ
  pub within : count ≤ length all
  pub ran : in_turn apply_all (take count all) base ≡ Ok contents

-- an image mounts to such contents
pub record MountsAfterFirst (all : List (List Op)) (base : Contents) (image : List ℕ) : Type 0 where
  pub contents : Contents
  pub after : IsAfterFirst all base contents
  pub mounts : MountsTo image contents

-- a command that ended well: these bytes were put into an object, or it was removed
pub data Ended : Type 0 where
  Put : (object : ObjectId) (offset : Option ℕ) (bytes : List ℕ) → Ended
  Removed : (object : ObjectId) → Ended

-- what it made of the contents that were there
abbrev pub HasMade : Ended → Contents → Contents → Type 0
HasMade (Put object offset bytes) base made = HasPut object offset bytes base made
HasMade (Removed object) base made = HasRemoved object base made

module _ {Dev : Type 0} {G : Ghosts Dev} where
  -- At each moment from the open of this pool to what its handle has seen last, every fair image that a crash leaves
  -- mounts what the first of these transactions make of the contents that it was opened with. So it is of a pool whose
  -- create began at this moment.
  abbrev pub LeavesFirst : List (List Op) → Shared Dev G → Handle Dev G → (created : ℕ) → Type 0
  LeavesFirst all p last created = LeavesFairSince (opening_view p).disk (view_seen last).disk created (MountsAfterFirst all (opening_view p).past.base)

  -- so it is of so many transactions of a put, or of none
  abbrev pub LeavesFirstOfPut : ObjectId → Option ℕ → List ℕ → (count : ℕ) → Shared Dev G → Handle Dev G → (created : ℕ) → Type 0
  LeavesFirstOfPut n offset bytes count p last created =
      LeavesFirst [] p last created ⊎ ((start : _) × IsStartFor offset start × LeavesFirst (take count (put_transactions start n offset bytes)) p last created)

module _ {Dev : Type 0} (G : Ghosts Dev) where
  -- Whichever run left the device, a put upon it begins with what that run left, and a power failure leaves the first
  -- of its transactions, whatever its result.
  abbrev pub PutsSurviveInOrder : Type 0
  PutsSurviveInOrder = (device : Dev) (n : ObjectId) (offset : Option ℕ) (bytes : List ℕ) (put : _) (result : Result (Unit {0}) PoolError) (on : PutsOn G device n offset bytes put result) → IsTrue G.keeps_model
      → (past : Past) → IsLeft past (G.disk device) → IsLeftBy past (opening_view on.pool).past.base × ∥ LeavesFirstOfPut n offset bytes put.transactions on.pool on.does.last past.created ∥₁

  -- and so it is of a removal
  abbrev pub RemovalsSurviveInOrder : Type 0
  RemovalsSurviveInOrder = (device : Dev) (n : ObjectId) (result : Result (Unit {0}) PoolError) (on : RemovesWith G device n result) → IsTrue G.keeps_model
      → (past : Past) → IsLeft past (G.disk device) → IsLeftBy past (opening_view on.pool).past.base × ∥ LeavesFirst (take on.does.count ((Remove n ∷ []) ∷ [])) on.pool on.does.last past.created ∥₁

  -- An earlier command gave back its device, which holds what it made of what the run before left. So a put upon it
  -- begins with all of that, and a power failure leaves that with the first of its own transactions.
  abbrev pub PutsFollowCommands : Type 0
  PutsFollowCommands = (earlier : Ended) (first device : Dev) (n : ObjectId) (offset : Option ℕ) (bytes : List ℕ) (put : _) (result : Result (Unit {0}) PoolError) (on : PutsOn G device n offset bytes put result)
      → HoldsContents G (HasMade earlier) first device → IsTrue G.keeps_model → (past : Past) → IsLeft past (G.disk first)
      → ∥ ((base : Contents) × IsLeftBy past base × HasMade earlier base (opening_view on.pool).past.base × LeavesFirstOfPut n offset bytes put.transactions on.pool on.does.last past.created) ∥₁

  -- and so it is of a removal
  abbrev pub RemovalsFollowCommands : Type 0
  RemovalsFollowCommands = (earlier : Ended) (first device : Dev) (n : ObjectId) (result : Result (Unit {0}) PoolError) (on : RemovesWith G device n result)
      → HoldsContents G (HasMade earlier) first device → IsTrue G.keeps_model → (past : Past) → IsLeft past (G.disk first)
      → ∥ ((base : Contents) × IsLeftBy past base × HasMade earlier base (opening_view on.pool).past.base × LeavesFirst (take on.does.count ((Remove n ∷ []) ∷ [])) on.pool on.does.last past.created) ∥₁
