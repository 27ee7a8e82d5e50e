-- A handle that has committed a transaction stays in its pool, and has seen a state that its past explains.
use Rattle.std.proofs.Common.{◌≡◌, ◌≢◌, ◌∷◌, [], ℕ, zero, suc, List, Ok, Err, inl, inr, refl, subst}
use Rattle.std.specs.Prelude.{IsTrue, Result}
use Rattle.base.specs.declared.error.PoolError.{PoolError}
use Rattle.base.specs.declared.error.PoolError.TheVariants.{NoMemory}
use Rattle.base.specs.declared.names.LockId.{LockId}
use Rattle.base.specs.declared.names.Receipt.{Receipt}
use Rattle.base.specs.declared.names.TxId.{TxId}
use Rattle.base.specs.declared.operation.Op.{Op}
use Rattle.base.specs.declared.operation.Shape.{Shape}
use Rattle.base.specs.declared.range.ObjectRange.{ObjectRange}
use Rattle.device_model.specs.declared.device.SectorDevice.{Ghosts}
use Rattle.pool_threads.specs.declared.handle.Handle.{Handle}
use Rattle.pool_threads.specs.Handles.{view_seen}
use Rattle.pool_threads.specs.Transacts.{Locks, LocksAndBegins, MakesTransaction, TransactsOrLacks, plan_of_ops}
use Rattle.pool_threads.specs.Views.{SeenPool}
use Rattle.pool_threads.proofs.Along.{GoesAlong, along_on, along_same}
use Rattle.pool_threads.proofs.TransactsSeen.{transaction_grows}
use Rattle.running_pools.specs.Commits.{MakesFirst, command_owner}
use Rattle.running_pools.proofs.Along.{along_transacts}
use Rattle.running_pools.proofs.Sounds.{IsSound, sound_on}
use Rattle.transactions.specs.LockRanges.{lock_ranges}

-- a transaction's first step is made from a state that its past explains
module _ (keeps : Type 0) (ranges : List ObjectRange) (ids : List LockId) where
  first_lock : (rs : List ObjectRange) (names : List LockId) (v w : SeenPool) → Locks keeps command_owner rs names v w → IsSound w → IsSound v
  first_lock [] [] v w same sound = subst IsSound same sound
  first_lock (r ∷ rs) (id ∷ names) v w (next, one, rest) sound = one.explained
  first_lock [] (id ∷ names) v w h sound = absurd h
  first_lock (r ∷ rs) [] v w h sound = absurd h

  first_step : (plan : List Shape) (tx : TxId) (v w : SeenPool) → LocksAndBegins keeps command_owner ranges plan ids (Ok tx) v w → IsSound v
  first_step plan tx v w (locked, locks, (group, one)) = first_lock ranges ids v locked locks one.explained

sound_after : (keeps : Type 0) (ranges : List ObjectRange) (plan : List Shape) (ops : List Op) (r : Receipt) (v w : SeenPool) → MakesTransaction keeps command_owner ranges plan ops (Ok r) v w → IsSound w
sound_after keeps ranges plan ops r v w m = sound_on keeps v w (transaction_grows keeps command_owner ranges plan ops (Ok r) v w m) (first_step keeps ranges m.ids plan m.ends.tx v m.ends.begun m.ends.begins)

module _ {Dev : Type 0} {G : Ghosts Dev} where
  sound_transacted : (ops : List Op) (r : Receipt) (old new : Handle Dev G) → TransactsOrLacks command_owner ops (Ok r) old new → IsSound (view_seen new)
  sound_transacted ops r old new (inl u) = sound_after (IsTrue G.keeps_model) (lock_ranges (plan_of_ops ops)) (plan_of_ops ops) ops r u.made.took (view_seen new) u.made.made
  sound_transacted ops r old new (inr (lacks, same)) = absurd (let no_way : Ok r ≡ Err NoMemory = lacks in cc)

  pub along_first : (all : List (List Op)) (count : ℕ) (result : Result (Unit {0}) PoolError) (old new : Handle Dev G) → MakesFirst all count result old new → GoesAlong old new
  along_first [] count result old new (none, is, same) = along_same old new same
  along_first (ops ∷ rest) zero result old new (e, is, refused) = along_transacts command_owner ops (Err e) old new refused
  along_first (ops ∷ rest) (suc count) result old new (r, next, made, more) = along_on old next new (along_transacts command_owner ops (Ok r) old next made) (along_first rest count result next new more)

  -- after one that was committed the handle has seen a state that its past explains
  pub sound_first : (all : List (List Op)) (count : ℕ) (result : Result (Unit {0}) PoolError) (old new : Handle Dev G) → count ≢ 0 → MakesFirst all count result old new → IsSound (view_seen new)
  sound_first [] count result old new some (none, is, same) = absurd (some none)
  sound_first (ops ∷ rest) zero result old new some makes = absurd (some refl)
  sound_first (ops ∷ rest) (suc count) result old new some (r, next, made, more) =
      sound_on (IsTrue G.keeps_model) (view_seen next) (view_seen new) (along_first rest count result next new more).onward (sound_transacted ops r old next made)
