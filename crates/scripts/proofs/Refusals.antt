-- A create of a good size and name is refused by the device alone, and an import has the limits that it was given.
use Rattle.std.proofs.Common.{◌≡◌, ◌∙◌, ℕ, List, inl, inr, refl, sym, ap, subst}
use Rattle.std.specs.Prelude.{◌⊎◌, true, Result, Ok, Err, is_ok}
use Rattle.std.proofs.lemmas.Bool.{false≢true}
use Rattle.base.specs.declared.error.PoolError.{PoolError}
use Rattle.base.specs.declared.error.PoolError.TheVariants.{Write, Flush, BadGeometry, BadRange}
use Rattle.base.specs.declared.step.Reply.TheVariants.{Done, Refused}
use Rattle.base.specs.disk.Disk.{disk_size}
use Rattle.base.specs.formats.Geometry.{IsGeometry}
use Rattle.base.specs.formats.Names.{IsName}
use Rattle.device_model.specs.MemState.{MemState}
use Rattle.device_model.specs.contracts.memory.MemDeviceSectorDevice.TheImpl.{ghosts}
use Rattle.device_model.specs.declared.fault.Fault.{Fault}
use Rattle.import_replay.specs.CreateRefusals.{IsCreateRefusal}
use Rattle.mounted.specs.declared.mounted.Mounted.{Mounted}
use Rattle.pool_core.specs.States.{cache_room_of, shown}
use Rattle.script_lines.specs.declared.answer.Answer.{Answer}
use Rattle.script_lines.specs.declared.answer.Answer.TheVariants as answer
use Rattle.script_lines.specs.declared.command.Command.TheVariants as command
use Rattle.scripts.specs.Devices.{CreatesOn}
use Rattle.scripts.specs.Places.{has_device}
use Rattle.scripts.specs.OwnPools.{IsImportedPool, MemPool}
use Rattle.scripts.specs.Sessions.{Does, Imports}
use Rattle.scripts.specs.declared.mounted_pool.MountedPool as mounted
use Rattle.scripts.specs.declared.place.Place.{Place}
use Rattle.scripts.specs.declared.place.Place.TheVariants.{Device, Pool}
use Rattle.scripts.specs.declared.session.BadCommand.{BadCommand}
use Rattle.scripts.specs.declared.session.Session.{Session}

by_device : (size : ℕ) (name : List ℕ) (e : PoolError) → IsGeometry size → IsName name → IsCreateRefusal size name e → (e ≡ Write) ⊎ (e ≡ Flush)
by_device size name Write sized named why = inl refl
by_device size name Flush sized named why = inr refl
by_device size name BadGeometry sized named why = absurd (why sized)
by_device size name BadRange sized named why = absurd (false≢true (sym why.1 ∙ named))
by_device size name e sized named why = absurd why

told_of : (e : PoolError) → (e ≡ Write) ⊎ (e ≡ Flush)
    → (answer.Reply (Refused e) ≡ answer.Reply Done) ⊎ ((answer.Reply (Refused e) ≡ answer.Reply (Refused Write)) ⊎ (answer.Reply (Refused e) ≡ answer.Reply (Refused Flush)))
told_of e (inl is) = inr (inl (ap (λ x. answer.Reply (Refused x)) is))
told_of e (inr is) = inr (inr (ap (λ x. answer.Reply (Refused x)) is))

pub good_create : {P : Type 0} (name : List ℕ) (guid moment : ℕ) (old : MemState) (told : Answer) (new : Place MemState P) → IsGeometry (disk_size old.disk) → IsName name → CreatesOn ghosts name guid moment old told new
    → (told ≡ answer.Reply Done) ⊎ ((told ≡ answer.Reply (Refused Write)) ⊎ (told ≡ answer.Reply (Refused Flush)))
good_create name guid moment old (answer.Reply Done) (Device new) sized named made = inl refl
good_create name guid moment old (answer.Reply (Refused e)) (Device new) sized named left = told_of e (by_device (disk_size old.disk) name e sized named left.refused)
good_create name guid moment old told new sized named none = absurd none

module _ {R : Type 0} (G : mounted.Ghosts MemPool MemState R) (Plans : Fault → ℕ → MemPool → MemPool → Type 0)
    (is_imported : (old device : MemState) (m : Mounted) (cache_blocks moment : ℕ) (pool : MemPool) → G.mounts old device m cache_blocks moment pool → IsImportedPool device m cache_blocks pool) where
  pub import_limit : (dirty_max cache_blocks : ℕ) (old new : Session R MemState MemPool) (told : Result Answer BadCommand) (pool : MemPool) → is_ok told ≡ has_device old.place → has_device old.place ≡ true
      → Does G Plans (command.Import dirty_max cache_blocks) old told new → new.place ≡ Pool pool → (shown pool).dirty_max ≡ dirty_max
  import_limit dirty_max cache_blocks old new (Err e) pool answered there does is = absurd (false≢true (answered ∙ there))
  import_limit dirty_max cache_blocks old new (Ok told) pool answered there does is =
      let by = subst (λ (p : Place MemState MemPool). Imports ghosts G dirty_max cache_blocks old.moment does.0 told p) is does.2.0 in
      ap (λ s. s.dirty_max) (is_imported does.0 by.device by.mounted cache_blocks old.moment pool by.mounts).shown_is ∙ by.imported.limit

  pub import_cache : (dirty_max cache_blocks : ℕ) (old new : Session R MemState MemPool) (told : Result Answer BadCommand) (pool : MemPool) → is_ok told ≡ has_device old.place → has_device old.place ≡ true
      → Does G Plans (command.Import dirty_max cache_blocks) old told new → new.place ≡ Pool pool → cache_room_of pool ≡ cache_blocks
  import_cache dirty_max cache_blocks old new (Err e) pool answered there does is = absurd (false≢true (answered ∙ there))
  import_cache dirty_max cache_blocks old new (Ok told) pool answered there does is =
      let by = subst (λ (p : Place MemState MemPool). Imports ghosts G dirty_max cache_blocks old.moment does.0 told p) is does.2.0 in
      (is_imported does.0 by.device by.mounted cache_blocks old.moment pool by.mounts).cache_is
