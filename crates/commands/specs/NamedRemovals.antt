-- How the object of a name is removed with its name, by the table of names.
use Rattle.std.specs.Prelude.{ℕ, ◌≡◌, ◌⊎◌, Bool, true, false, List, [], ◌∷◌, None, Option, Ok, Err, Result, Some}
use Rattle.base.specs.declared.error.PoolError.{PoolError}
use Rattle.base.specs.declared.error.PoolError.TheVariants.{NoObject}
use Rattle.base.specs.declared.names.ObjectId.{ObjectId}
use Rattle.base.specs.declared.step.Reply.TheVariants as reply
use Rattle.base.specs.declared.step.Step.TheVariants as step
use Rattle.base.specs.steps.Runs.{reply_of}
use Rattle.commands.specs.Committed.{SyncsIfMade}
use Rattle.running_pools.specs.Commits.{MakesFirst}
use Rattle.device_model.specs.declared.device.SectorDevice.{Ghosts}
use Rattle.commands.specs.NamedOps.{removal_ops}
use Rattle.read_commands.specs.NamedObjects.{IsUnknown}
use Rattle.commands.specs.TableReads.{ReadsTable}
use Rattle.commands.specs.declared.named_steps.NameRefusal.{NameRefusal}
use Rattle.commands.specs.declared.named_steps.NameRefusal.TheVariants.{Engine, Name}
use Rattle.read_commands.specs.declared.name_causes.NameCause.TheVariants.{NoTable, Unknown}
use Rattle.object_names.specs.NameTables.{IsNamed}
use Rattle.pool_threads.specs.Answers.{Makes}
use Rattle.pool_threads.specs.Handles.{IsNewHandle}
use Rattle.pool_threads.specs.declared.handle.Handle.{Handle}
use Rattle.pool_threads.specs.declared.shared.Shared.{Shared}

-- whether an object is there, by the length that it was found to have
abbrev pub is_there : Result ℕ PoolError → Result Bool PoolError
is_there (Ok length) = Ok true
is_there (Err NoObject) = Ok false
is_there (Err e) = Err e

-- the number of the object that was removed, or why it was not
abbrev pub removed_as : ObjectId → Result (Unit {0}) PoolError → Result ObjectId NameRefusal
removed_as n (Ok done) = Ok n
removed_as n (Err e) = Err (Engine e)

module _ {Dev : Type 0} {G : Ghosts Dev} where
  -- The handle made the transaction that removes the object, if it is there, and its name, and synced the pool if that
  -- was committed.
  pub record RemovesBoth (there : Bool) (n : ObjectId) (result : Result (Unit {0}) PoolError) (old last : Handle Dev G) : Type 0 where
    pub count : ℕ
    pub made : Result (Unit {0}) PoolError
    pub done : Handle Dev G
    pub makes : MakesFirst (removal_ops there n ∷ []) count made old done
    pub syncs : SyncsIfMade made result done last

  -- so it did, or the object's length was refused
  abbrev pub RemovesAsFound : Result Bool PoolError → ObjectId → Result (Unit {0}) PoolError → Handle Dev G → Handle Dev G → Type 0
  RemovesAsFound (Ok there) n result old last = RemovesBoth there n result old last
  RemovesAsFound (Err e) n result old last = (result ≡ Err e) × (last ≡ old)

  -- The handle looked whether the object is there, and then did so.
  pub record RemovesWithName (n : ObjectId) (result : Result (Unit {0}) PoolError) (old last : Handle Dev G) : Type 0 where
    pub found : Result ℕ PoolError
    pub looked : Handle Dev G
    pub looks : Makes (step.Length n) (reply_of (λ count. reply.Length count) found) old looked
    pub removes : RemovesAsFound (is_there found) n result looked last

  -- nothing was removed for this refusal, and the handle did no more
  abbrev pub RemovesNothing : NameRefusal → Result ObjectId NameRefusal → Handle Dev G → Handle Dev G → Type 0
  RemovesNothing refusal result old last = (result ≡ Err refusal) × (last ≡ old)

  -- the object that has the name was removed so, or none has it
  abbrev pub RemovesByName : List ℕ → List ℕ → Result ObjectId NameRefusal → Handle Dev G → Handle Dev G → Type 0
  RemovesByName table name result old last =
      ((n : ObjectId) × (end : Result (Unit {0}) PoolError) × IsNamed table n.0 name × RemovesWithName n end old last × (result ≡ removed_as n end))
      ⊎ (IsUnknown table name × RemovesNothing (Name Unknown) result old last)

  -- so it was by the table that was read; or object 0 is of another use, or the read was refused
  abbrev pub RemovesByTable : Result (Option (List ℕ)) PoolError → List ℕ → Result ObjectId NameRefusal → Handle Dev G → Handle Dev G → Type 0
  RemovesByTable (Ok (Some table)) name result old last = RemovesByName table name result old last
  RemovesByTable (Ok None) name result old last = RemovesNothing (Name NoTable) result old last
  RemovesByTable (Err e) name result old last = RemovesNothing (Engine e) result old last

  -- A new handle of this pool read the table of names, and then it was so.
  pub record RemovesNamed (p : Shared Dev G) (name : List ℕ) (result : Result ObjectId NameRefusal) : Type 0 where
    pub first : Handle Dev G
    pub is_new : IsNewHandle p first
    pub table : Result (Option (List ℕ)) PoolError
    pub looked : Handle Dev G
    pub reads : ReadsTable table first looked
    pub last : Handle Dev G
    pub removes : RemovesByTable table name result looked last
