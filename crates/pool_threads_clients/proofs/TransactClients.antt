-- What callers take from the turns of one transaction.
use Rattle.std.proofs.Common.{◌≡◌, ◌++◌, ◌∷◌, List, [], inl, inr, subst, sym}
use Rattle.std.specs.Prelude.{All, IfOk, IsTrue, Result, Ok, Err}
use Rattle.std.proofs.Math.Logic.{∥∥₁_map}
use Rattle.std.proofs.lemmas.List.Elements.{All-weaker}
use Rattle.base.specs.declared.error.PoolError.{PoolError}
use Rattle.base.specs.declared.error.PoolError.TheVariants as error
use Rattle.base.specs.declared.names.Group.{Group}
use Rattle.base.specs.declared.names.LockId.{LockId}
use Rattle.base.specs.declared.names.Owner.{Owner}
use Rattle.base.specs.declared.names.Receipt.{Receipt}
use Rattle.base.specs.declared.names.TxId.{TxId}
use Rattle.base.specs.declared.operation.Op.{Op}
use Rattle.base.specs.declared.step.Step.TheVariants as step
use Rattle.base.specs.declared.step.Reply.TheVariants as reply
use Rattle.device_model.specs.declared.device.SectorDevice.{Ghosts}
use Rattle.pool_threads.specs.declared.handle.Handle.{Handle}
use Rattle.pool_threads.specs.Handles.{turns_of, view_seen}
use Rattle.pool_threads.specs.Transacts.{AreReleased, LeavesNothing, Locks, TransactsLockedOrLacks, TransactsOrLacks, Unlocks, plan_of_ops}
use Rattle.pool_threads.specs.Views.{IsPoolStep, SeenPool, viewed_state}
use Rattle.transactions.specs.LockRanges.{lock_ranges}
use Rattle.word_lock.specs.declared.rule.Turn.{Turn}
use Rattle.word_lock.specs.Turns.{turn}

module _ {Dev : Type 0} {G : Ghosts Dev} (owner : Owner) (ops : List Op) (old new : Handle Dev G) where
  -- the last turn of a transaction that was committed with this receipt, and all its steps
  abbrev pub AllSteps : Receipt → Type 0
  AllSteps r = (tries : List (Turn SeenPool)) × (took : SeenPool) × (turns_of new ≡ (turns_of old ++ tries) ++ turn took (view_seen new) ∷ []) × (ids : List LockId) × (tx : TxId) × (group : Group)
      × (locked : SeenPool) × (begun : SeenPool) × (done : SeenPool) × Locks (IsTrue G.keeps_model) owner (lock_ranges (plan_of_ops ops)) ids took locked
      × IsPoolStep (IsTrue G.keeps_model) (step.Begin owner (plan_of_ops ops)) (reply.Began tx group) locked begun × IsPoolStep (IsTrue G.keeps_model) (step.Commit tx ops) (reply.Committed r) begun done
      × Unlocks (IsTrue G.keeps_model) owner ids done (view_seen new)

  pub takes_all_steps : (result : Result Receipt PoolError) → TransactsOrLacks owner ops result old new → IfOk result AllSteps
  takes_all_steps (Ok r) (inl u) =
      let m = u.made.made in
      (u.made.had, u.made.took, u.made.turn, m.ids, m.ends.tx, m.ends.begins.2.0, m.ends.begins.0, m.ends.begun, m.ended, m.ends.begins.1, m.ends.begins.2.1, m.ends.ends, m.unlocks)
  takes_all_steps (Ok r) (inr (lacks, same)) = absurd (let no_way : Ok r ≡ Err error.NoMemory = lacks in cc)
  takes_all_steps (Err e) t = tt

  -- so it is under the caller's locks: two steps
  abbrev pub BothSteps : Receipt → Type 0
  BothSteps r = (tries : List (Turn SeenPool)) × (took : SeenPool) × (turns_of new ≡ (turns_of old ++ tries) ++ turn took (view_seen new) ∷ []) × (tx : TxId) × (group : Group) × (begun : SeenPool)
      × IsPoolStep (IsTrue G.keeps_model) (step.Begin owner (plan_of_ops ops)) (reply.Began tx group) took begun × IsPoolStep (IsTrue G.keeps_model) (step.Commit tx ops) (reply.Committed r) begun (view_seen new)

  pub takes_both_steps : (result : Result Receipt PoolError) → TransactsLockedOrLacks owner ops result old new → IfOk result BothSteps
  takes_both_steps (Ok r) (inl u) =
      let m = u.made.made in (
        u.made.had,
        u.made.took,
        u.made.turn,
        m.ends.tx,
        m.ends.begins.2.0,
        m.ends.begun,
        from m.ids u.made.took m.ends.begins.0 m.ends.begins.1 m.ends.begins.2.1,
        to m.ids u.made.took m.ends.begins.0 m.ended (view_seen new) m.ends.begins.1 m.unlocks m.ends.ends,
      )
    where
      from : (ids : List LockId) (took locked : SeenPool) {tx : TxId} {group : Group} {begun : SeenPool} → Locks (IsTrue G.keeps_model) owner [] ids took locked
          → IsPoolStep (IsTrue G.keeps_model) (step.Begin owner (plan_of_ops ops)) (reply.Began tx group) locked begun → IsPoolStep (IsTrue G.keeps_model) (step.Begin owner (plan_of_ops ops)) (reply.Began tx group) took begun
      from [] took locked {tx} {group} {begun} same one = subst (λ (v : SeenPool). IsPoolStep (IsTrue G.keeps_model) (step.Begin owner (plan_of_ops ops)) (reply.Began tx group) v begun) same one
      from (id ∷ ids) took locked h one = absurd h

      to : (ids : List LockId) (took locked ended left : SeenPool) {tx : TxId} {begun : SeenPool} → Locks (IsTrue G.keeps_model) owner [] ids took locked → Unlocks (IsTrue G.keeps_model) owner ids ended left
          → IsPoolStep (IsTrue G.keeps_model) (step.Commit tx ops) (reply.Committed r) begun ended → IsPoolStep (IsTrue G.keeps_model) (step.Commit tx ops) (reply.Committed r) begun left
      to [] took locked ended left {tx} {begun} same unlocks one = subst (λ (v : SeenPool). IsPoolStep (IsTrue G.keeps_model) (step.Commit tx ops) (reply.Committed r) begun v) (sym unlocks) one
      to (id ∷ ids) took locked ended left h unlocks one = absurd h
  takes_both_steps (Ok r) (inr (lacks, same)) = absurd (let no_way : Ok r ≡ Err error.NoMemory = lacks in cc)
  takes_both_steps (Err e) t = tt

  -- each turn has left the locks that it found
  abbrev pub KeepsLocksInEach : Type 0
  KeepsLocksInEach = (had : List (Turn SeenPool)) × (turns_of new ≡ turns_of old ++ had) × All (λ (t : Turn SeenPool). ∥ (viewed_state t.left).shown.locks ≡ (viewed_state t.took).shown.locks ∥₁) had

  pub keeps_locks : LeavesNothing old new → KeepsLocksInEach
  keeps_locks l = (
    l.had,
    l.turns,
    All-weaker (λ (t : Turn SeenPool). ∥ AreReleased (viewed_state t.took) (viewed_state t.left) ∥₁) (λ (t : Turn SeenPool). ∥ (viewed_state t.left).shown.locks ≡ (viewed_state t.took).shown.locks ∥₁)
        (λ t released. ∥∥₁_map released (λ r. r.locks)) l.had l.each,
  )

  -- and the transactions
  abbrev pub KeepsTransactionsInEach : Type 0
  KeepsTransactionsInEach =
      (had : List (Turn SeenPool)) × (turns_of new ≡ turns_of old ++ had) × All (λ (t : Turn SeenPool). ∥ (viewed_state t.left).shown.transactions ≡ (viewed_state t.took).shown.transactions ∥₁) had

  pub keeps_transactions : LeavesNothing old new → KeepsTransactionsInEach
  keeps_transactions l = (
    l.had,
    l.turns,
    All-weaker (λ (t : Turn SeenPool). ∥ AreReleased (viewed_state t.took) (viewed_state t.left) ∥₁) (λ (t : Turn SeenPool). ∥ (viewed_state t.left).shown.transactions ≡ (viewed_state t.took).shown.transactions ∥₁)
        (λ t released. ∥∥₁_map released (λ r. r.transactions)) l.had l.each,
  )
