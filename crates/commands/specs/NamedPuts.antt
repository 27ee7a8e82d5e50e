-- How bytes are put into the object of a name: by the table of names, into the object that has it or into a new one.
use Rattle.std.specs.Prelude.{ℕ, ◌≡◌, ◌⊎◌, List, None, Option, Ok, Err, Result, Some}
use Rattle.base.specs.declared.error.PoolError.{PoolError}
use Rattle.base.specs.declared.names.ObjectId.{ObjectId}
use Rattle.commands.specs.declared.changes.Put.{Put}
use Rattle.device_model.specs.declared.device.SectorDevice.{Ghosts}
use Rattle.commands.specs.NewHandles.{PutsByNew}
use Rattle.commands.specs.NewObjects.{PutsNew, PutsNothing}
use Rattle.commands.specs.NameRefusals.{by_engine}
use Rattle.commands.specs.TableReads.{ReadsTable}
use Rattle.commands.specs.declared.named_steps.NameRefusal.{NameRefusal}
use Rattle.commands.specs.declared.named_steps.NameRefusal.TheVariants.{Engine, Name}
use Rattle.read_commands.specs.NamedObjects.{IsUnknown}
use Rattle.read_commands.specs.declared.name_causes.NameCause.TheVariants.{NoTable}
use Rattle.object_names.specs.NameTables.{IsNamed}
use Rattle.pool_threads.specs.Handles.{IsNewHandle}
use Rattle.pool_threads.specs.declared.handle.Handle.{Handle}
use Rattle.pool_threads.specs.declared.shared.Shared.{Shared}

module _ {Dev : Type 0} {G : Ghosts Dev} where
  -- bytes were put into the object of this number, as a put by number does
  abbrev pub PutsKnown : Shared Dev G → ObjectId → Option ℕ → List ℕ → Put → Result (Unit {0}) NameRefusal → Type 0
  PutsKnown p n offset bytes put result = (end : Result (Unit {0}) PoolError) × PutsByNew p n offset bytes put end × (result ≡ by_engine end)

  -- into the object that has the name, and the first handle did no more; or that handle put them into a new object
  abbrev pub PutsByName : Shared Dev G → List ℕ → List ℕ → Option ℕ → List ℕ → Put → Result (Unit {0}) NameRefusal → Handle Dev G → Handle Dev G → Type 0
  PutsByName p table name offset bytes put result old last = ((n : ObjectId) × IsNamed table n.0 name × PutsKnown p n offset bytes put result × (last ≡ old))
      ⊎ (IsUnknown table name × PutsNew table name offset bytes put result old last)

  -- so it was by the table that was read; or object 0 is of another use, or the read was refused, and nothing was put
  abbrev pub PutsByTable : Shared Dev G → Result (Option (List ℕ)) PoolError → List ℕ → Option ℕ → List ℕ → Put → Result (Unit {0}) NameRefusal → Handle Dev G → Handle Dev G → Type 0
  PutsByTable p (Ok (Some table)) name offset bytes put result old last = PutsByName p table name offset bytes put result old last
  PutsByTable p (Ok None) name offset bytes put result old last = PutsNothing (Name NoTable) put result old last
  PutsByTable p (Err e) name offset bytes put result old last = PutsNothing (Engine e) put result old last

  -- A new handle of this pool read the table of names, and then the bytes were put so.
  pub record PutsNamed (p : Shared Dev G) (name : List ℕ) (offset : Option ℕ) (bytes : List ℕ) (put : Put) (result : Result (Unit {0}) NameRefusal) : Type 0 where
    pub first : Handle Dev G
    pub is_new : IsNewHandle p first
    pub table : Result (Option (List ℕ)) PoolError
    pub looked : Handle Dev G
    pub reads : ReadsTable table first looked
    pub last : Handle Dev G
    pub puts : PutsByTable p table name offset bytes put result looked last
