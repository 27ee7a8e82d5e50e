-- What a crash and an import make of a session that has a device and no pool.
use Rattle.std.proofs.Common.{◌≡◌, ◌∙◌, ◌∷◌, [], ℕ, List, length, inl, inr, refl, sym, ap, subst, rules, arith}
use Rattle.std.specs.Prelude.{◌⊎◌, false, Option, Some, Result, Ok, Err}
use Rattle.std.proofs.lemmas.Bool.{false≢true}
use Rattle.base.specs.kept.Imports.{are_limits_allowed}
use Rattle.base.specs.declared.error.PoolError.{PoolError}
use Rattle.base.specs.declared.error.PoolError.TheVariants.{BadGeometry, BadRange, NoMemory}
use Rattle.base.specs.declared.piece.Piece.{Piece}
use Rattle.base.specs.declared.piece.Piece.TheVariants.{Lose}
use Rattle.base.specs.declared.step.Reply.TheVariants.{Refused}
use Rattle.base.specs.disk.Disk.{disk_size}
use Rattle.base.specs.formats.Geometry.{IsGeometry}
use Rattle.device_model.specs.MemState.{MemState, after_crash}
use Rattle.device_model.specs.contracts.memory.MemDeviceSectorDevice.TheImpl.{ghosts}
use Rattle.device_model.specs.declared.fault.Fault.{Fault}
use Rattle.import_replay.specs.ImportRefusals.{IsImportRefusal}
use Rattle.script_lines.specs.declared.answer.Answer.{Answer}
use Rattle.script_lines.specs.declared.answer.Answer.TheVariants as answer
use Rattle.script_lines.specs.declared.command.Command.TheVariants as command
use Rattle.scripts.specs.Devices.{IsLeftByMount, IsMountedBy}
use Rattle.scripts.specs.Places.{CrashesOn, IsTakenFrom, has_device, has_pool}
use Rattle.scripts.specs.Sessions.{Crashes, Does, Imports, place_in, session_moment}
use Rattle.scripts.specs.declared.mounted_pool.MountedPool as mounted
use Rattle.scripts.specs.declared.place.Place.{Place}
use Rattle.scripts.specs.declared.place.Place.TheVariants.{Nothing, Device, Pool}
use Rattle.scripts.specs.declared.session.BadCommand.{BadCommand}
use Rattle.scripts.specs.declared.session.Session.{Session}

module _ {R P : Type 0} (G : mounted.Ghosts P MemState R) (s : Session R MemState P) (device : MemState) (was : place_in s ≡ Device device) where
  -- that device is taken
  taken_is : (taken : Option MemState) → IsTakenFrom G (place_in s) taken → taken ≡ Some device
  taken_is taken from = subst (λ (p : Place MemState P). IsTakenFrom G p taken) was from

  same_device : (taken : MemState) → IsTakenFrom G (place_in s) (Some taken) → taken ≡ device
  same_device taken from = let some = taken_is (Some taken) from in cc

  one_is_found : has_device (place_in s) ≡ false → ⊥
  one_is_found none = false≢true (sym none ∙ ap (λ (p : Place MemState P). has_device p) was)

  crashed : (told : Result Answer BadCommand) (new : Place MemState P) → length device.disk.now.unflushed ≡ 1 → CrashesOn (Lose ∷ []) device told new → new ≡ Device (after_crash (Lose ∷ []) device)
  crashed (Ok told) new one crashes = crashes.2
  crashed (Err e) new one crashes = absurd (omega (arith, one, crashes.0))

  -- a crash with one letter, where one write is unflushed, leaves that piece
  pub lost : (pieces : List Piece) (told : Result Answer BadCommand) (new : Place MemState P) → pieces ≡ Lose ∷ [] → length device.disk.now.unflushed ≡ 1 → Crashes G pieces (place_in s) told new
      → new ≡ Device (after_crash (Lose ∷ []) device)
  lost pieces told new one_piece one (inl (taken, from, crashes)) =
      crashed told new one
      (subst (λ (d : MemState). CrashesOn (Lose ∷ []) d told new) (same_device taken from) (subst (λ ps. CrashesOn ps taken told new) one_piece crashes.0))
  lost pieces told new one_piece one (inr none) = absurd (one_is_found none.1)

-- a limit of no bytes is none
no_limit : (size : ℕ) (e : PoolError) → IsGeometry size → IsImportRefusal size (are_limits_allowed 0 256) e → e ≡ BadRange
no_limit size BadRange sized why = refl
no_limit size BadGeometry sized why = absurd (why sized)
no_limit size e sized why = absurd (false≢true why.0.1)

module _ {R P : Type 0} (G : mounted.Ghosts P MemState R) (Plans : Fault → ℕ → P → P → Type 0) where
  module _ (of_memory : (e : PoolError) → G.refuses e → e ≡ NoMemory) where
    left_refused : (moment : ℕ) (old device : MemState) (e : PoolError) → IsGeometry (disk_size old.disk) → IsLeftByMount ghosts G.refuses 0 256 moment old e device → (e ≡ BadRange) ⊎ (e ≡ NoMemory)
    left_refused moment old device e sized (inl left) = inl (no_limit (disk_size old.disk) e sized left.refused)
    left_refused moment old device e sized (inr none) = inr (of_memory e none.0)

    imports_refused : (moment : ℕ) (old : MemState) (e : PoolError) (new : Place MemState P) → IsGeometry (disk_size old.disk) → Imports ghosts G 0 256 moment old (answer.Reply (Refused e)) new → (e ≡ BadRange) ⊎ (e ≡ NoMemory)
    imports_refused moment old e Nothing sized i = absurd i
    imports_refused moment old e (Device new) sized i =
        let same : i.error ≡ e = let told = i.told_is in cc in
        subst (λ (x : PoolError). (x ≡ BadRange) ⊎ (x ≡ NoMemory)) same (left_refused moment old new i.error sized i.left)
    imports_refused moment old e (Pool pool) sized i = let told = i.told_is in search rules

    -- an import with no limit is refused for it, or for want of memory
    pub refused_limit : (s new : Session R MemState P) (device : MemState) → place_in s ≡ Device device → (told : Result Answer BadCommand) (e : PoolError) → told ≡ Ok (answer.Reply (Refused e))
        → IsGeometry (disk_size device.disk) → Does G Plans (command.Import 0 256) s told new → (e ≡ BadRange) ⊎ (e ≡ NoMemory)
    refused_limit s new device was told e is sized does =
        let taken = subst (λ (r : Result Answer BadCommand). Does G Plans (command.Import 0 256) s r new) is does in
        imports_refused (session_moment s) device e (place_in new) sized
        (subst (λ (d : MemState). Imports ghosts G 0 256 (session_moment s) d (answer.Reply (Refused e)) (place_in new)) (same_device G s device was taken.0 taken.1) taken.2.0)

  -- if a pool is there after an import, it is what the import mounted
  pub mount_found : (s new : Session R MemState P) (device : MemState) → place_in s ≡ Device device → (dirty_max cache_blocks : ℕ) (told : Result Answer BadCommand) (pool : P) → place_in new ≡ Pool pool
      → Does G Plans (command.Import dirty_max cache_blocks) s told new → (a : Answer) × IsMountedBy ghosts G.mounts dirty_max cache_blocks (session_moment s) device pool a
  mount_found s new device was dirty_max cache_blocks (Ok told) pool is taken = (
    told,
    subst (λ (p : Place MemState P). Imports ghosts G dirty_max cache_blocks (session_moment s) device told p) is
        (subst (λ (d : MemState). Imports ghosts G dirty_max cache_blocks (session_moment s) d told (place_in new)) (same_device G s device was taken.0 taken.1) taken.2.0),
  )
  mount_found s new device was dirty_max cache_blocks (Err e) pool is same = absurd (false≢true (ap (λ (p : Place MemState P). has_pool p) (sym (same ∙ was) ∙ is)))
