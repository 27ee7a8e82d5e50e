-- Where groups rise, whatever a crash leaves has a durable transaction with all before it.
use Rattle.std.proofs.Common.{◌≡◌, ◌∷◌, [], ℕ, List, Ok, Err, ap, append-nil, false, inl, inr, refl, subst, sym, ◌∙◌}
use Rattle.std.specs.Prelude.{IsTrue, Result}
use Rattle.std.proofs.Math.Logic.{∥∥₁_elim, ∥∥₁_map, ∥∥₁_prop}
use Rattle.std.proofs.lemmas.Bool.{true≢false}
use Rattle.base.specs.declared.error.PoolError.{PoolError}
use Rattle.base.specs.declared.error.PoolError.TheVariants as error
use Rattle.base.specs.declared.names.Owner.{Owner}
use Rattle.base.specs.declared.names.Receipt.{Receipt}
use Rattle.base.specs.declared.operation.Op.{Op}
use Rattle.base.specs.declared.operation.Shape.{Shape}
use Rattle.base.specs.declared.range.ObjectRange.{ObjectRange}
use Rattle.base.specs.declared.step.Reply as declared_reply
use Rattle.base.specs.declared.step.Reply.TheVariants as reply
use Rattle.base.specs.declared.step.Step as declared_step
use Rattle.base.specs.declared.step.Step.TheVariants as step
use Rattle.base.specs.history.Contents.{Contents}
use Rattle.base.specs.history.Past.{Past}
use Rattle.base.specs.steps.Additions.{past_after}
use Rattle.base.specs.steps.Explains.{IsLeftBy}
use Rattle.base.specs.steps.Steps.{State}
use Rattle.base.proofs.steps.Additions.{told_past}
use Rattle.device_model.specs.declared.device.SectorDevice.{Ghosts}
use Rattle.pool_threads.specs.declared.handle.Handle.{Handle}
use Rattle.pool_threads.specs.Answers.{Sees, Takes, state_seen}
use Rattle.pool_threads.specs.Handles.{view_seen}
use Rattle.pool_threads.specs.Transacts.{IsTransacted, MakesTransaction, TransactsDurably, plan_of_ops}
use Rattle.pool_threads.specs.Views.{GrowsTo, IsPoolStep, SeenPool, grows_onward, grows_same, since, viewed_state}
use Rattle.pool_threads.specs.Waits.{WaitsForFlush}
use Rattle.pool_threads.proofs.Along.{GoesAlong, along_on, along_same, one_grows}
use Rattle.pool_threads.proofs.TransactsSeen.{entered_by, transact_along}
use Rattle.pool_threads.proofs.Waited.{LeadsOn, all_alike, flush_wait}
use Rattle.pool_threads.proofs.WaitsSeen.{durable_seen}
use Rattle.running_pools.proofs.Adds.{Adds, AddsAlone, adds_same, alone_on, both_add, transacted_alone}
use Rattle.running_pools.proofs.Sounds.{acknowledged_now, sound_on}
use Rattle.transactions.specs.LockRanges.{lock_ranges}
use Rattle.word_lock.specs.declared.rule.Turn.{Turn}
use Rattle.fronts.specs.DurableTransactions.{DurableEntriesHaveAllBefore, DurableTransactsHaveAllBefore, IsExplained, IsFrontWith, TransactsAreExplained, WaitsStayExplained}
use Rattle.fronts.specs.RisingPools.{RisesAlone, is_commit}
use Rattle.fronts.specs.RisingPools.MakesTransactions.{by_transact_durably}
use Rattle.fronts.proofs.Fronts.{cuts_are_fronts}
use Rattle.fronts.proofs.FrontsBetween.{known_below}
use Rattle.fronts.proofs.OverTurns.{over_duty, over_line, over_unlocks}
use Rattle.fronts.proofs.RisingCalls.{transacts_go_on_rising}

pub durable_entries_have_all_before : DurableEntriesHaveAllBefore
durable_entries_have_all_before ordinal e s created c exact rising at durable left =
    let f = cuts_are_fronts (since created s.past) c rising left in
    record { front = f; has = known_below f.count s.past.acknowledged ordinal f.acknowledged (acknowledged_now ordinal e s exact at durable) }

-- what a step adds to the entries that is no commit: nothing
none_added : (old new : Past) → new.base ≡ old.base → new.entries ≡ old.entries → Adds [] old new
none_added old new base entries = record { base = base; added = []; entries = entries ∙ sym (append-nil old.entries); ops = refl }

none_after : (s : declared_step.Step) (r : declared_reply.Reply) (old : State) → is_commit s r ≡ false → Adds [] old.past (past_after s r old)
none_after (step.Commit tx ops) (reply.Committed receipt) old none = absurd (true≢false none)
none_after (step.Lock owner n range mode) (reply.Locked id) old none = none_added old.past (past_after (step.Lock owner n range mode) (reply.Locked id) old) refl refl
none_after (step.LockAppend owner n) (reply.Appended id range) old none = none_added old.past (past_after (step.LockAppend owner n) (reply.Appended id range) old) refl refl
none_after (step.Unlock owner id) reply.Done old none = none_added old.past (past_after (step.Unlock owner id) reply.Done old) refl refl
none_after (step.Begin owner plan) (reply.Began tx group) old none = none_added old.past (past_after (step.Begin owner plan) (reply.Began tx group) old) refl refl
none_after (step.Abort tx) reply.Done old none = none_added old.past (past_after (step.Abort tx) reply.Done old) refl refl
none_after step.SyncStep (reply.Synced group) old none = none_added old.past (past_after step.SyncStep (reply.Synced group) old) refl refl
none_after step.LogFlush reply.Flushed old none = none_added old.past (past_after step.LogFlush reply.Flushed old) refl refl
none_after s r old none = none_added old.past (past_after s r old) refl refl

abbrev AddsNone : SeenPool → SeenPool → Type 0
AddsNone v w = ∥ Adds [] v.past w.past ∥₁

module _ (keeps : Type 0) where
  none_by_step : (s : declared_step.Step) (r : declared_reply.Reply) (v w : SeenPool) → is_commit s r ≡ false → IsPoolStep keeps s r v w → AddsNone v w
  none_by_step s r v w none one =
      ∥∥₁_map {B = Adds [] v.past w.past} one.step (λ did. subst (λ (p : Past). Adds [] v.past p) (sym (told_past ⊥ [] s r (viewed_state v) (viewed_state w) did)) (none_after s r (viewed_state v) none))

  none_same : (v w : SeenPool) → w ≡ v → AddsNone v w
  none_same v w is = ∣ adds_same v.past w.past (ap (λ (u : SeenPool). u.past) is) ∣₁

  none_on : (u v w : SeenPool) → AddsNone u v → AddsNone v w → AddsNone u w
  none_on u v w first later = both_add [] [] u.past v.past w.past first later

  none_by_turn : (t : Turn SeenPool) → LeadsOn keeps t → AddsNone t.took t.left
  none_by_turn t (leads, inl is) = none_same t.took t.left is
  none_by_turn t (leads, inr (d, r, made)) = over_duty keeps AddsNone none_same none_on none_by_step d r t.took t.left made

  -- a transaction that was made leaves an explained view
  made_explained : (owner : Owner) (ranges : List ObjectRange) (plan : List Shape) (ops : List Op) (r : Receipt) (v w : SeenPool) → MakesTransaction keeps owner ranges plan ops (Ok r) v w → IsExplained w
  made_explained owner ranges plan ops r v w m =
      let commit = m.ends.ends in
      sound_on keeps m.ended w
      (over_unlocks keeps (GrowsTo keeps) (λ u x is. subst (GrowsTo keeps u) (sym is) (grows_same keeps u)) (grows_onward keeps) (λ s r u x none one. one_grows one) owner m.ids m.ended w m.unlocks)
      (sound_on keeps m.ends.begun m.ended (one_grows commit) commit.explained)

module _ {Dev : Type 0} {G : Ghosts Dev} where
  pub transacts_are_explained : TransactsAreExplained G
  transacts_are_explained owner ops r old new (inl u) = made_explained (IsTrue G.keeps_model) owner (lock_ranges (plan_of_ops ops)) (plan_of_ops ops) ops r u.made.took (view_seen new) u.made.made
  transacts_are_explained owner ops r old new (inr (lacks, same)) = absurd (let no_way : Ok r ≡ Err error.NoMemory = lacks in cc)

  -- the turns of a wait
  wait_along : (receipt : Receipt) (result : Result (Unit {0}) PoolError) (old new : Handle Dev G) → WaitsForFlush receipt result old new → GoesAlong old new
  wait_along receipt result old new w =
      let t = flush_wait receipt result w in
      record { same_pool = t.same_pool; onward = grows_onward _ _ _ _ t.made.onward t.made.made.0; met_none = t.made.met_none }

  pub waits_stay_explained : WaitsStayExplained G
  waits_stay_explained receipt result old new w explained = sound_on (IsTrue G.keeps_model) (view_seen old) (view_seen new) (wait_along receipt result old new w).onward explained

  waits_add_none : (receipt : Receipt) (result : Result (Unit {0}) PoolError) (old new : Handle Dev G) → WaitsForFlush receipt result old new → AddsAlone [] old new
  waits_add_none receipt result old new w = λ only.
      let keeps : Type 0 = IsTrue G.keeps_model in
      let t : Takes (LeadsOn keeps) old new = all_alike (λ u leads. (leads, leads.0)) (flush_wait receipt result w) in (
        t.made.met_none.0 ∙ only,
        over_line keeps AddsNone (none_same keeps) (none_on keeps) (none_by_step keeps) (LeadsOn keeps) (none_by_turn keeps) t.made.had (view_seen old) (view_seen new) t.made.each (t.made.alone only),
      )

  -- a durable transaction of the only handle
  module _ (owner : Owner) (ops : List Op) (r : Receipt) (old new : Handle Dev G) (made : TransactsDurably owner ops (Ok r) old new) where
    pub durable_along : GoesAlong old new
    durable_along = along_on old made.done new (transact_along owner ops (Ok r) old made.done made.transacts) (wait_along r (Ok tt) made.done new made.waits)

    pub durable_entered : Sees (IsTransacted ops r) old new
    durable_entered = entered_by owner ops r old old made.done new (along_same old old refl) made.transacts (wait_along r (Ok tt) made.done new made.waits)

    pub durable_adds : AddsAlone (ops ∷ []) old new
    durable_adds = alone_on (ops ∷ []) [] old made.done new (transacted_alone owner ops (Ok r) old made.done made.transacts) (waits_add_none r (Ok tt) made.done new made.waits)

    pub durable_rises : RisesAlone old → RisesAlone new
    durable_rises x = (transacts_go_on_rising old new (by_transact_durably owner ops (Ok r) made) x).after

  pub durable_transacts_have_all_before : DurableTransactsHaveAllBefore G
  durable_transacts_have_all_before owner ops r old new made x =
      let past : Past = (view_seen new).past in
      ∥∥₁_elim (waits_stay_explained r (Ok tt) made.done new made.waits (transacts_are_explained owner ops r old made.done made.transacts)) ∥∥₁_prop (λ exact.
      ∥∥₁_elim (durable_entered owner ops r old new made) ∥∥₁_prop (λ entered.
      ∥∥₁_elim (durable_seen r (Ok tt) made.done new made.waits) ∥∥₁_prop (λ durable.
      ∥∥₁_map {B = (created : ℕ) (contents : Contents) → IsLeftBy (since created past) contents → IsFrontWith r.ordinal.0 (since created past) contents} (durable_rises owner ops r old new made x).rising (λ rising created contents left.
      durable_entries_have_all_before r.ordinal.0 (record { group = r.group.0; tx = entered.0.0; ops = ops }) (state_seen new) created contents exact rising entered.1.entry durable left))))
