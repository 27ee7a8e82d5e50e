-- How the commands `put` and `rm` of a name end on a device.
use Rattle.std.specs.Prelude.{ℕ, ◌≡◌, ◌⊎◌, false, List, Ok, Option, Err, Result}
use Rattle.std.specs.Io.KnownBytes.{Appends}
use Rattle.base.specs.declared.names.ObjectId.{ObjectId}
use Rattle.commands.specs.Committed.{FailsToOpen, IsOpenedOn, nothing_put}
use Rattle.commands.specs.Puts.{put_line, removed_line}
use Rattle.commands.specs.declared.changes.Put.{Put}
use Rattle.device_model.specs.declared.device.SectorDevice.{Ghosts}
use Rattle.commands.specs.NamedPuts.{PutsNamed}
use Rattle.commands.specs.NamedRemovals.{RemovesNamed}
use Rattle.commands.specs.NameRefusals.{IsEarlyFailure, IsNameFailureFor}
use Rattle.commands.specs.declared.named_steps.NameRefusal.{NameRefusal}
use Rattle.read_commands.specs.declared.name_causes.NameCause.TheVariants.{NoName}
use Rattle.read_commands.specs.declared.name_causes.NameFailure.{NameFailure}
use Rattle.read_commands.specs.declared.name_causes.NameFailure.TheVariants.{Name, Plain}
use Rattle.object_names.specs.Names.{is_name}
use Rattle.pool_threads.specs.declared.shared.Shared.{Shared}
use Rattle.read_commands.specs.declared.failure.Failure.{Failure}

module _ {Dev : Type 0} (G : Ghosts Dev) where
  -- for this failure the pool of a device was not opened
  abbrev pub FailsPlainly : Dev → ℕ → NameFailure → Type 0
  FailsPlainly device moment why = (failure : Failure) × FailsToOpen G device moment failure × (why ≡ Plain failure)

  -- the bytes were put into the object of a name in the pool of a device, with this result
  abbrev pub PutsNamedOn : Dev → List ℕ → Option ℕ → List ℕ → Put → Result (Unit {0}) NameRefusal → Type 0
  PutsNamedOn device name offset bytes put result = IsOpenedOn G device (λ (p : Shared Dev G). PutsNamed p name offset bytes put result)

  -- A put ended so. For an early failure, and if the pool was not opened, nothing was put.
  abbrev pub NamedPutEnds : Dev → ℕ → List ℕ → Option ℕ → List ℕ → Put → Result (Unit {0}) NameFailure → Type 0
  NamedPutEnds device moment name offset bytes put (Ok done) = PutsNamedOn device name offset bytes put (Ok tt)
  NamedPutEnds device moment name offset bytes put (Err why) = ((put ≡ nothing_put) × (IsEarlyFailure name offset bytes why ⊎ FailsPlainly device moment why))
      ⊎ ((refusal : NameRefusal) × PutsNamedOn device name offset bytes put (Err refusal) × IsNameFailureFor refusal why)

  -- it was refused so
  abbrev pub RefusesNamedPut : Dev → ℕ → List ℕ → Option ℕ → List ℕ → Type 0
  RefusesNamedPut device moment name offset bytes = (put : Put) × (why : NameFailure) × NamedPutEnds device moment name offset bytes put (Err why)

  -- all was put, and the pool was synced
  abbrev pub PutsNamedAll : Dev → List ℕ → Option ℕ → List ℕ → Type 0
  PutsNamedAll device name offset bytes = (put : Put) × PutsNamedOn device name offset bytes put (Ok tt)

  -- all was put, and this was written of it
  pub record PutsNamedAndPrints (device : Dev) (name : List ℕ) (offset : Option ℕ) (bytes : List ℕ) (old new : Option (List ℕ)) : Type 0 where
    pub put : Put
    pub puts : PutsNamedOn device name offset bytes put (Ok tt)
    pub prints : Appends old new (put_line put.bytes put.transactions)

  -- the object of a name was removed with it from the pool of a device, with this result
  abbrev pub RemovesNamedOn : Dev → List ℕ → Result ObjectId NameRefusal → Type 0
  RemovesNamedOn device name result = IsOpenedOn G device (λ (p : Shared Dev G). RemovesNamed p name result)

  -- a removal ended so
  abbrev pub NamedRemovalEnds : Dev → ℕ → List ℕ → Result ObjectId NameFailure → Type 0
  NamedRemovalEnds device moment name (Ok n) = RemovesNamedOn device name (Ok n)
  NamedRemovalEnds device moment name (Err why) = ((is_name name ≡ false) × (why ≡ Name NoName))
      ⊎ (FailsPlainly device moment why ⊎ ((refusal : NameRefusal) × RemovesNamedOn device name (Err refusal) × IsNameFailureFor refusal why))

  -- it was refused so
  abbrev pub RefusesNamedRemoval : Dev → ℕ → List ℕ → Type 0
  RefusesNamedRemoval device moment name = (why : NameFailure) × NamedRemovalEnds device moment name (Err why)

  -- an object was removed with its name, and the pool was synced
  abbrev pub RemovesNamedAll : Dev → List ℕ → Type 0
  RemovesNamedAll device name = (n : ObjectId) × RemovesNamedOn device name (Ok n)

  -- so it was, and its number was written
  abbrev pub RemovesNamedAndPrints : Dev → List ℕ → Option (List ℕ) → Option (List ℕ) → Type 0
  RemovesNamedAndPrints device name old new = (n : ObjectId) × RemovesNamedOn device name (Ok n) × Appends old new (removed_line n.0)
