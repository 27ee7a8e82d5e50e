-- What a session reads of its pool, and takes of it, is what the last command left.
use Rattle.std.proofs.Common.{◌≡◌, ◌∙◌, ℕ, List, [], inl, inr, sym, ap, subst, rules, arith}
use Rattle.std.specs.Prelude.{◌⊎◌, Option, None, Some, Result, Ok, Err, IsOk, false}
use Rattle.std.proofs.Math.Logic.{∥∥₁_map}
use Rattle.std.proofs.lemmas.Bool.{false≢true}
use Rattle.base.specs.declared.error.PoolError.{PoolError}
use Rattle.base.specs.declared.names.ObjectId.{ObjectId}
use Rattle.base.specs.declared.piece.Piece.{Piece}
use Rattle.base.specs.declared.step.Reply.{Reply}
use Rattle.base.specs.declared.step.Reply.TheVariants as reply
use Rattle.base.specs.declared.step.Step.TheVariants.{Length}
use Rattle.base.specs.disk.Crashes.{crash_image}
use Rattle.base.specs.disk.Disk.{Disk, certain}
use Rattle.base.specs.disk.Fairness.{IsFairOn}
use Rattle.base.specs.history.Contents.{length_of}
use Rattle.base.specs.history.Past.{Past}
use Rattle.base.specs.steps.Refusals.{length_refusal}
use Rattle.base.specs.steps.Runs.{reply_of}
use Rattle.base.specs.steps.Steps.{Answers, State}
use Rattle.pool_core.specs.StepReplies.{IsStep}
use Rattle.device_model.specs.MemState.{MemState, after_crash}
use Rattle.device_model.specs.contracts.memory.MemDeviceSectorDevice.TheImpl.{ghosts}
use Rattle.pool_threads.specs.Views.{viewed_state}
use Rattle.script_lines.specs.declared.answer.Answer.{Answer}
use Rattle.script_lines.specs.declared.command.PoolCommand.TheVariants as pool
use Rattle.scripts.specs.Places.{CrashesOn, IsTakenFrom, has_device}
use Rattle.scripts.specs.declared.place.Place.TheVariants.{Nothing, Device, Pool}
use Rattle.scripts.specs.declared.session.BadCommand.{BadCommand}
use Rattle.scripts.specs.declared.session.Session.{Session}
use Rattle.scripts.specs.Kept.{IsRunIn}
use Rattle.scripts.specs.Sessions.{Crashes, place_in}
use Rattle.scripts.specs.declared.mounted_pool.MountedPool as mounted
use Rattle.scripts.specs.declared.place.Place.{Place}
use Rattle.script_sessions.specs.SharedPools.{AsksOwned, AsksShared, HasNoRoom, IsDeviceIn, view_in}
use Rattle.script_sessions.specs.declared.shared_pool.SharedPool.{SharedPool}

pub disk_left : (shared : SharedPool) (device : MemState) → IsDeviceIn shared device → device.disk ≡ (view_in shared).disk
disk_left shared device is = ap (λ (d : MemState). d.disk) is.device_is ∙ sym is.ends.explains.disk_is

abbrev device_or : MemState → Place MemState SharedPool → MemState
device_or other Nothing = other
device_or other (Device device) = device
device_or other (Pool shared) = other

module _ {R : Type 0} (G : mounted.Ghosts SharedPool MemState R) (gives : (shared : SharedPool) (device : MemState) → G.gives shared device → IsDeviceIn shared device)
    (s : Session R MemState SharedPool) (old : SharedPool) (was : place_in s ≡ Pool old) where
  disk_taken : (device : MemState) → IsTakenFrom G (place_in s) (Some device) → device.disk ≡ (view_in old).disk
  disk_taken device taken = disk_left old device (gives old device (subst (λ (p : Place MemState SharedPool). IsTakenFrom G p (Some device)) was taken))

  one_there : has_device (place_in s) ≡ false → ⊥
  one_there none = false≢true (sym none ∙ ap (λ (p : Place MemState SharedPool). has_device p) was)

  crashed : (device : MemState) (told : Result Answer BadCommand) (new : Place MemState SharedPool) → CrashesOn [] device told new → new ≡ Device (after_crash [] device)
  crashed device (Ok told) new crashes = crashes.2
  crashed device (Err e) new crashes = absurd (omega (arith, crashes.0))

  -- a crash with no letter takes the disk that the last command left
  pub crash_takes : (pieces : List Piece) (told : Result Answer BadCommand) (new : Place MemState SharedPool) (device : MemState) → pieces ≡ [] → new ≡ Device device → Crashes G pieces (place_in s) told new
      → device.disk ≡ certain (crash_image [] (view_in old).disk.now) (view_in old).disk
  crash_takes pieces told new device none is (inl (taken, from, (crashes, keeps))) =
      let left : new ≡ Device (after_crash [] taken) = crashed taken told new (subst (λ (ps : List Piece). CrashesOn ps taken told new) none crashes) in
      ap (λ (p : Place MemState SharedPool). (device_or device p).disk) (sym is ∙ left) ∙ ap (λ (d : Disk). certain (crash_image [] d.now) d) (disk_taken taken from)
  crash_takes pieces told new device none is (inr nothing) = absurd (one_there nothing.1)

  -- a crash that is fair on that disk leaves what the run left
  pub crash_leaves : (pieces : List Piece) (told : Result Answer BadCommand) (new : Place MemState SharedPool) (past : Past) → IsOk told → G.runs past old
      → IsFairOn (view_in old).disk past.created (crash_image pieces (view_in old).disk.now) → Crashes G pieces (place_in s) told new → IsRunIn ghosts G past new
  crash_leaves pieces (Ok told) new past ok run fair (inl (taken, from, (crashes, keeps))) =
      keeps past (subst (λ (p : Place MemState SharedPool). IsRunIn ghosts G past p) (sym was) run)
      (subst (λ (d : Disk). IsFairOn d past.created (crash_image pieces d.now)) (sym (disk_taken taken from)) fair)
  crash_leaves pieces (Err e) new past ok run fair crashes = search rules
  crash_leaves pieces told new past ok run fair (inr none) = absurd (one_there none.1)

-- a length that is answered is that of the object in the state before
length_before : (n : ObjectId) (count : ℕ) (old new : State) → IsStep (Length n) (reply.Length count) old new → length_of old.shown.contents n.0 ≡ Some count
length_before n count old new (answer, is, h) = go (length_refusal n.0 old.shown) answer is h
  where
    go : (o : Option PoolError) (a : Result ℕ PoolError) → reply.Length count ≡ reply_of (λ (length : ℕ). reply.Length length) a
        → Answers o a old new (λ (length : ℕ). (length_of old.shown.contents n.0 ≡ Some length) × (new ≡ old)) (λ e. ⊥) → length_of old.shown.contents n.0 ≡ Some count
    go (Some e) (Ok a) is h = absurd (let no_way : Ok a ≡ Err e = h.0 in cc)
    go (Some e) (Err f) is h = absurd (let no_way : reply.Length count ≡ reply.Refused f = is in cc)
    go None (Err f) is h = absurd h
    go None (Ok a) is h = let same : count ≡ a = cc in h.0 ∙ ap (λ (k : ℕ). Some k) (sym same)

-- so it is of what the last command left
pub length_left : (W : Type 0) (n : ObjectId) (moment count : ℕ) (given : Reply) (old new : SharedPool) → given ≡ reply.Length count → AsksShared W (pool.Step (Length n)) moment given old new
    → ∥ length_of (viewed_state (view_in old)).shown.contents n.0 ≡ Some count ∥₁
length_left W n moment count given old new is made = by_asks made.asks
  where
    by_asks : AsksOwned W (pool.Step (Length n)) moment given old new ⊎ HasNoRoom (pool.Step (Length n)) old given new → ∥ length_of (viewed_state (view_in old)).shown.contents n.0 ≡ Some count ∥₁
    by_asks (inl owned) =
        ∥∥₁_map owned.next.step (λ one. length_before n count (viewed_state (view_in old)) (viewed_state (view_in new))
        (subst (λ (r : Reply). IsStep (Length n) r (viewed_state (view_in old)) (viewed_state (view_in new))) is one))
    by_asks (inr none) = absurd (false≢true none.0)
