-- A put is made into its pool, or is refused, by the length of its object and by the blocks that are available.
use Rattle.std.proofs.Common.{◌≡◌, ℕ, List, Ok, Err, refl, subst, sym, ◌∙◌}
use Rattle.std.specs.Prelude.{Bool, Option, Result}
use Rattle.base.specs.declared.error.PoolError.{PoolError}
use Rattle.base.specs.declared.names.ObjectId.{ObjectId}
use Rattle.base.specs.declared.status.Status.{Status}
use Rattle.base.specs.declared.step.Reply.TheVariants as reply
use Rattle.base.specs.declared.step.Step.TheVariants as step
use Rattle.base.specs.steps.Runs.{reply_of}
use Rattle.device_model.specs.declared.device.SectorDevice.{Ghosts}
use Rattle.pool_threads.specs.declared.handle.Handle.{Handle}
use Rattle.pool_threads.specs.Answers.{Makes}
use Rattle.commands.specs.Committed.{PutsAsFound, PutsBy, PutsIfRoom, nothing_put}
use Rattle.commands.specs.PutRoom.{lacks_room}
use Rattle.commands.specs.Puts.{start_of}
use Rattle.commands.specs.declared.changes.Put.{Put}
use Rattle.commands.specs.declared.changes.Start.{Start}

module _ {Dev : Type 0} {G : Ghosts Dev} (n : ObjectId) (offset : Option ℕ) (bytes : List ℕ) (first looked : Handle Dev G) (found : Result ℕ PoolError) (looks : Makes (step.Length n) (reply_of (λ count. reply.Length count) found) first looked) where
  pub put_without_length : (e : PoolError) → Err e ≡ start_of offset found → PutsBy n offset bytes nothing_put (Err e) first looked
  put_without_length e is = record {
    found = found;
    looked = looked;
    looks = looks;
    puts = subst (λ s. PutsAsFound s found n offset bytes nothing_put (Err e) looked looked) is (refl, refl, refl, refl);
  }

  pub put_by_room : (put : Put) (result : Result (Unit {0}) PoolError) (start : Start) (status : Status) (asked last : Handle Dev G) (lacks told : Bool) → Ok start ≡ start_of offset found → Makes step.Status (reply.Status status) looked asked
      → lacks ≡ lacks_room start offset bytes found status.available → lacks ≡ told → PutsIfRoom told start n offset bytes put result asked last → PutsBy n offset bytes put result first last
  put_by_room put result start status asked last lacks told is asks are same puts = record {
    found = found;
    looked = looked;
    looks = looks;
    puts = subst (λ s. PutsAsFound s found n offset bytes put result looked last) is
        (record { status = status; asked = asked; asks = asks; puts = subst (λ b. PutsIfRoom b start n offset bytes put result asked last) (sym same ∙ are) puts });
  }
