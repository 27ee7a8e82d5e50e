-- How a handle puts bytes into a new object of a name: it finds a number, and room for the bytes, and makes the object.
use Rattle.std.specs.Prelude.{ℕ, true, false, ◌≡◌, ◌≤◌, ◌⊎◌, ◌*◌, ◌-◌, ◌^◌, Bool, List, Option, Ok, Err, Result, length, min}
use Rattle.base.specs.declared.error.PoolError.{PoolError}
use Rattle.base.specs.declared.error.PoolError.TheVariants.{NoObject, NoSpace}
use Rattle.base.specs.declared.names.ObjectId.{ObjectId}
use Rattle.base.specs.declared.status.Status.{Status}
use Rattle.base.specs.declared.step.Reply.TheVariants as reply
use Rattle.base.specs.declared.step.Step.TheVariants as step
use Rattle.commands.specs.Committed.{SyncsAfter, nothing_put}
use Rattle.running_pools.specs.Commits.{MakesFirst}
use Rattle.commands.specs.PutRoom.{lacks_room}
use Rattle.commands.specs.declared.changes.Put.{Put}
use Rattle.commands.specs.declared.changes.Start.TheVariants.{Creates}
use Rattle.device_model.specs.declared.device.SectorDevice.{Ghosts}
use Rattle.commands.specs.NamedOps.{naming_transactions}
use Rattle.commands.specs.NameRefusals.{by_engine}
use Rattle.commands.specs.declared.new_objects.NewObject.{NewObject}
use Rattle.commands.specs.declared.named_steps.NameRefusal.{NameRefusal}
use Rattle.commands.specs.declared.named_steps.NameRefusal.TheVariants.{Engine, Name}
use Rattle.read_commands.specs.declared.name_causes.NameCause.TheVariants.{NoNumber}
use Rattle.object_names.specs.NameTables.{IsFree, has_object}
use Rattle.pool_threads.specs.Answers.{Makes}
use Rattle.pool_threads.specs.LongWrites.{piece_size}
use Rattle.pool_threads.specs.Objects.{IsListRefusal, Lists}
use Rattle.pool_threads.specs.declared.handle.Handle.{Handle}

-- more objects than a pool may have
abbrev pub all_objects : ℕ
all_objects = 2 ^ 64 - 1

-- the blocks that the writes of a header and of a slot make at most
abbrev pub table_blocks : ℕ
table_blocks = 5

-- a new object lacks room for these bytes beside the blocks of its name, if so many are available
abbrev pub lacks_room_beside : Option ℕ → List ℕ → ℕ → Bool
lacks_room_beside offset bytes available = lacks_room Creates offset bytes (Err NoObject) (available - table_blocks)

-- of these objects, the lowest number that has no name and no object
pub record IsLowestFree (table : List ℕ) (objects : List (ObjectId × ℕ)) (n : ℕ) : Type 0 where
  pub free : IsFree table objects n
  pub lowest : (k : ℕ) → IsFree table objects k → n ≤ k

module _ {Dev : Type 0} {G : Ghosts Dev} where
  -- The handle asked how many blocks are available, and they are so many that this was found of a new object.
  pub record AsksRoom (offset : Option ℕ) (bytes : List ℕ) (lacks : Bool) (old new : Handle Dev G) : Type 0 where
    pub status : Status
    pub asks : Makes step.Status (reply.Status status) old new
    pub room : lacks_room_beside offset bytes status.available ≡ lacks

  -- What it found among these objects: the lowest free number, and room for the bytes. Or none is free, or there is no
  -- room.
  abbrev pub FindsAmong : List ℕ → Option ℕ → List ℕ → List (ObjectId × ℕ) → Result NewObject NameRefusal → Handle Dev G → Handle Dev G → Type 0
  FindsAmong table offset bytes objects (Ok new) old now = IsLowestFree table objects new.object.0 × (new.has_table ≡ has_object objects 0) × AsksRoom offset bytes false old now
  FindsAmong table offset bytes objects (Err (Name cause)) old now = (cause ≡ NoNumber) × ((k : ℕ) → IsFree table objects k → ⊥) × (now ≡ old)
  FindsAmong table offset bytes objects (Err (Engine e)) old now = (e ≡ NoSpace) × AsksRoom offset bytes true old now

  -- It listed all objects, and this was found among them.
  pub record FindsListed (table : List ℕ) (offset : Option ℕ) (bytes : List ℕ) (result : Result NewObject NameRefusal) (old now : Handle Dev G) : Type 0 where
    pub objects : List (ObjectId × ℕ)
    pub listed : Handle Dev G
    pub lists : Lists 0 all_objects objects old listed
    pub finds : FindsAmong table offset bytes objects result listed now

  -- so it did, or the list was refused
  abbrev pub FindsNew : List ℕ → Option ℕ → List ℕ → Result NewObject NameRefusal → Handle Dev G → Handle Dev G → Type 0
  FindsNew table offset bytes result old now = ((e : PoolError) × IsListRefusal e old now × (result ≡ Err (Engine e))) ⊎ FindsListed table offset bytes result old now

  -- nothing was put for this refusal, and the handle did no more
  abbrev pub PutsNothing : NameRefusal → Put → Result (Unit {0}) NameRefusal → Handle Dev G → Handle Dev G → Type 0
  PutsNothing refusal put result old last = (put ≡ nothing_put) × (result ≡ Err refusal) × (last ≡ old)

  -- The handle made the object with its name and its bytes, up to the first transaction that was refused. If any was
  -- committed it synced the pool. What it tells of them is their number and the number of their bytes.
  pub record MakesNamed (table : List ℕ) (new : NewObject) (name : List ℕ) (offset : Option ℕ) (bytes : List ℕ) (put : Put) (result : Result (Unit {0}) NameRefusal) (old last : Handle Dev G) : Type 0 where
    pub made : Result (Unit {0}) PoolError
    pub done : Handle Dev G
    pub makes : MakesFirst (naming_transactions new.has_table table new.object name offset bytes) put.transactions made old done
    pub size : put.bytes ≡ min (piece_size * put.transactions) (length bytes)
    pub end : Result (Unit {0}) PoolError
    pub syncs : SyncsAfter put made end done last
    pub ends : result ≡ by_engine end

  -- so it did with a number that it found; or it found none, and nothing was put
  abbrev pub PutsAsNew : List ℕ → Result NewObject NameRefusal → List ℕ → Option ℕ → List ℕ → Put → Result (Unit {0}) NameRefusal → Handle Dev G → Handle Dev G → Type 0
  PutsAsNew table (Ok new) name offset bytes put result old last = MakesNamed table new name offset bytes put result old last
  PutsAsNew table (Err refusal) name offset bytes put result old last = PutsNothing refusal put result old last

  pub record PutsNew (table name : List ℕ) (offset : Option ℕ) (bytes : List ℕ) (put : Put) (result : Result (Unit {0}) NameRefusal) (old last : Handle Dev G) : Type 0 where
    pub new : Result NewObject NameRefusal
    pub found : Handle Dev G
    pub finds : FindsNew table offset bytes new old found
    pub puts : PutsAsNew table new name offset bytes put result found last
