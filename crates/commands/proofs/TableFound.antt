-- What is done by a table of names that was read, or without one, and the transactions for which there was memory.
use Rattle.std.proofs.Common.{◌≡◌, ℕ, List, Option, Ok, Err, inr, subst, sym}
use Rattle.std.specs.Prelude.{Bool, IfErr, IfOk, Result}
use Rattle.base.specs.declared.error.PoolError.{PoolError}
use Rattle.base.specs.declared.error.PoolError.TheVariants.{NoMemory}
use Rattle.base.specs.declared.names.ObjectId.{ObjectId}
use Rattle.base.specs.declared.names.Receipt.{Receipt}
use Rattle.base.specs.declared.operation.Op.{Op}
use Rattle.base.specs.declared.step.Reply.TheVariants as reply
use Rattle.base.specs.declared.step.Step.TheVariants as step
use Rattle.base.specs.steps.Runs.{reply_of}
use Rattle.running_pools.specs.Commits.{command_owner}
use Rattle.commands.specs.declared.changes.Put.{Put}
use Rattle.device_model.specs.declared.device.SectorDevice.{Ghosts}
use Rattle.pool_threads.specs.Answers.{Makes}
use Rattle.pool_threads.specs.Handles.{IsNewHandle}
use Rattle.pool_threads.specs.Transacts.{TransactsOrLacks}
use Rattle.pool_threads.specs.declared.handle.Handle.{Handle}
use Rattle.pool_threads.specs.declared.shared.Shared.{Shared}
use Rattle.commands.specs.NamedPuts.{PutsByTable, PutsNamed}
use Rattle.commands.specs.NamedRemovals.{RemovesAsFound, RemovesByTable, RemovesNamed, RemovesWithName, is_there}
use Rattle.commands.specs.TableReads.{ReadsTable}
use Rattle.commands.specs.declared.named_steps.NameRefusal.{NameRefusal}

module _ {Dev : Type 0} {G : Ghosts Dev} where
  -- a transaction of operations for which there was memory, or none
  pub transacted : {E : Type 0} (ops : List Op) (built : Result (List Op) E) (result : Result Receipt PoolError) (old new : Handle Dev G) → IfOk built (λ o. o ≡ ops)
      → IfOk built (λ o. TransactsOrLacks command_owner o result old new) → IfErr built (λ _. (result ≡ Err NoMemory) × (new ≡ old)) → TransactsOrLacks command_owner ops result old new
  transacted ops (Ok built) result old new are made lacks = subst (λ (o : List Op). TransactsOrLacks command_owner o result old new) are made
  transacted ops (Err e) result old new are made lacks = inr lacks

  -- an object is removed with its name by the length that was found
  pub removed_as_found : (n : ObjectId) (result : Result (Unit {0}) PoolError) (old looked last : Handle Dev G) (found : Result ℕ PoolError) (there : Result Bool PoolError) → there ≡ is_there found
      → Makes (step.Length n) (reply_of (λ count. reply.Length count) found) old looked → RemovesAsFound there n result looked last → RemovesWithName n result old last
  removed_as_found n result old looked last found there is looks removes =
      record { found = found; looked = looked; looks = looks; removes = subst (λ (t : Result Bool PoolError). RemovesAsFound t n result looked last) is removes }

  -- by the table that a new handle read, or without one
  module _ (p : Shared Dev G) (name : List ℕ) (first looked : Handle Dev G) (is_new : IsNewHandle p first) (table : Result (Option (List ℕ)) PoolError) (reads : ReadsTable table first looked) where
    pub put_by_table : (offset : Option ℕ) (bytes : List ℕ) (put : Put) (result : Result (Unit {0}) NameRefusal) (last : Handle Dev G) (t : Result (Option (List ℕ)) PoolError) → table ≡ t
        → PutsByTable p t name offset bytes put result looked last → PutsNamed p name offset bytes put result
    put_by_table offset bytes put result last t is puts = record {
      first = first;
      is_new = is_new;
      table = table;
      looked = looked;
      reads = reads;
      last = last;
      puts = subst (λ (o : Result (Option (List ℕ)) PoolError). PutsByTable p o name offset bytes put result looked last) (sym is) puts;
    }

    pub removed_by_table : (result : Result ObjectId NameRefusal) (last : Handle Dev G) (t : Result (Option (List ℕ)) PoolError) → table ≡ t → RemovesByTable t name result looked last → RemovesNamed p name result
    removed_by_table result last t is removes = record {
      first = first;
      is_new = is_new;
      table = table;
      looked = looked;
      reads = reads;
      last = last;
      removes = subst (λ (o : Result (Option (List ℕ)) PoolError). RemovesByTable o name result looked last) (sym is) removes;
    }
