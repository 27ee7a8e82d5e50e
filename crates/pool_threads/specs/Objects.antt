-- Which objects a handle lists of a pool.
use Rattle.std.specs.Prelude.{ℕ, ◌≡◌, ◌⊎◌, ◌-◌, ◌∷◌, List, [], take, None, Option, Some, true}
use Rattle.std.specs.List.{flat_map, range_with_len}
use Rattle.base.specs.declared.error.PoolError.{PoolError}
use Rattle.base.specs.declared.error.PoolError.TheVariants as error
use Rattle.base.specs.declared.names.ObjectId.{ObjectId}
use Rattle.base.specs.formats.Limits.{object_count}
use Rattle.base.specs.history.Contents.{Contents, length_of}
use Rattle.device_model.specs.declared.device.SectorDevice.{Ghosts}
use Rattle.pool_threads.specs.declared.handle.Handle.{Handle}
use Rattle.pool_threads.specs.Answers.{state_seen}
use Rattle.pool_threads.specs.Handles.{HasLooked}

-- the object of a number with its length, if it is there
abbrev pub object_at : ℕ → Option ℕ → List (ObjectId × ℕ)
object_at n None = []
object_at n (Some length) = (record { 0 = n }, length) ∷ []

-- the objects of these numbers that are there, each with its length
abbrev pub objects_among : Contents → List ℕ → List (ObjectId × ℕ)
objects_among c numbers = flat_map (λ n. object_at n (length_of c n)) numbers

-- all from this number on, rising
abbrev pub objects_from : ℕ → Contents → List (ObjectId × ℕ)
objects_from from c = objects_among c (range_with_len from (object_count - from))

module _ {Dev : Type 0} {G : Ghosts Dev} where
  -- in one turn and no other the handle looked, and these are the first objects from a number on that it saw then, of a
  -- pool that isn't suspended
  pub record Lists (from most : ℕ) (list : List (ObjectId × ℕ)) (old new : Handle Dev G) : Type 0 where
    pub looked : HasLooked old new
    pub objects : list ≡ take most (objects_from from (state_seen new).shown.contents)

  -- a refusal of such a list: for want of memory, before the handle did anything; or the pool that it saw is suspended
  abbrev pub IsListRefusal : PoolError → Handle Dev G → Handle Dev G → Type 0
  IsListRefusal e old new = ((e ≡ error.NoMemory) × (new ≡ old)) ⊎ ((e ≡ error.Suspended) × HasLooked old new × ((state_seen new).shown.suspended ≡ true))
