-- What the turns of one transaction say to its handle.
use Rattle.std.proofs.Common.{◌≡◌, ◌++◌, ◌∷◌, [], List, inl, inr, refl, sym, subst, ◌∙◌}
use Rattle.std.specs.Prelude.{ℕ, ◌⊎◌, IfErr, IfOk, IsTrue, Result, Ok, Err, Some}
use Rattle.std.proofs.Math.Logic.{∥∥₁_map}
use Rattle.base.specs.declared.error.PoolError.{PoolError}
use Rattle.base.specs.declared.error.PoolError.TheVariants as error
use Rattle.base.specs.declared.names.Group.{Group}
use Rattle.base.specs.declared.names.LockId.{LockId}
use Rattle.base.specs.declared.names.Owner.{Owner}
use Rattle.base.specs.declared.names.Receipt.{Receipt}
use Rattle.base.specs.declared.names.TxId.{TxId}
use Rattle.base.specs.declared.operation.Op.{Op}
use Rattle.base.specs.declared.operation.Shape.{Shape}
use Rattle.base.specs.declared.range.ObjectRange.{ObjectRange}
use Rattle.base.specs.declared.step.Step.TheVariants as step
use Rattle.base.specs.declared.step.Reply.TheVariants as reply
use Rattle.base.specs.steps.Steps.{State}
use Rattle.base.proofs.steps.SeenStates.{commits_are_seen}
use Rattle.device_model.specs.declared.device.SectorDevice.{Ghosts}
use Rattle.pool_tables.specs.declared.duty.Duty.TheVariants as duty
use Rattle.pool_threads.specs.declared.handle.Handle.{Handle}
use Rattle.pool_threads.specs.Answers.{IsRefusal, Sees, state_seen}
use Rattle.pool_threads.specs.Handles.{moment_of}
use Rattle.pool_threads.specs.Transacts.{BeginsAndEnds, Ends, IsCommitRefusal, IsEarlierTurn, IsLastTurn, IsPayingTurn, IsTransactRefusal, IsTransacted, Locks, LocksAndBegins, LocksAndEnds, MakesTransaction, Transacts, TransactsAtLast, TransactsLocked, TransactsOrLacks, Unlocks, lock_step, plan_of_ops}
use Rattle.pool_threads.specs.Views.{GrowsTo, SeenPool, grows_onward, grows_same, viewed_state}
use Rattle.pool_threads.specs.Waits.{IsSyncingRefusal}
use Rattle.pool_threads.proofs.Along.{GoesAlong, along_same, one_grows, seen_in}
use Rattle.pool_threads.proofs.Answered.{refused_between}
use Rattle.pool_threads.proofs.Served.{grows_by_due, refused_due}
use Rattle.transactions.specs.LockRanges.{lock_ranges}
use Rattle.word_lock.specs.declared.rule.Turn.{Turn}
use Rattle.word_lock.specs.Seats.{seen}
use Rattle.word_lock.specs.Turns.{turn}

module _ (keeps : Type 0) where
  same_grows : (v w : SeenPool) → w ≡ v → GrowsTo keeps v w
  same_grows v w same = subst (GrowsTo keeps v) (sym same) (grows_same keeps v)

  module _ (owner : Owner) where
    locks_grow : (rs : List ObjectRange) (ids : List LockId) (v w : SeenPool) → Locks keeps owner rs ids v w → GrowsTo keeps v w
    locks_grow [] [] v w same = same_grows v w same
    locks_grow (r ∷ rs) (id ∷ ids) v w (next, one, rest) = grows_onward keeps v next w (one_grows one) (locks_grow rs ids next w rest)
    locks_grow [] (id ∷ ids) v w h = absurd h
    locks_grow (r ∷ rs) [] v w h = absurd h

    unlocks_grow : (ids : List LockId) (v w : SeenPool) → Unlocks keeps owner ids v w → GrowsTo keeps v w
    unlocks_grow [] v w same = same_grows v w same
    unlocks_grow (id ∷ ids) v w (next, answer, one, rest) = grows_onward keeps v next w (one_grows one) (unlocks_grow ids next w rest)

    module _ (ranges : List ObjectRange) (plan : List Shape) (ids : List LockId) where
      begins_grow : (result : Result TxId PoolError) (v w : SeenPool) → LocksAndBegins keeps owner ranges plan ids result v w → GrowsTo keeps v w
      begins_grow (Ok tx) v w (locked, locks, (group, one)) = grows_onward keeps v locked w (locks_grow ranges ids v locked locks) (one_grows one)
      begins_grow (Err e) v w (inl s) = grows_onward keeps v s.middle w (locks_grow s.locked ids v s.middle s.locks) (one_grows s.refused)
      begins_grow (Err e) v w (inr (locked, locks, one)) = grows_onward keeps v locked w (locks_grow ranges ids v locked locks) (one_grows one)

      module _ (ops : List Op) where
        ends_grow : (tx : TxId) (result : Result Receipt PoolError) (v w : SeenPool) → Ends keeps tx ops result v w → GrowsTo keeps v w
        ends_grow tx (Ok r) v w one = one_grows one
        ends_grow tx (Err e) v w (failed, refused, (answer, aborted)) = grows_onward keeps v failed w (one_grows refused) (one_grows aborted)

        both_grow : (result : Result Receipt PoolError) (v w : SeenPool) → BeginsAndEnds keeps owner ranges plan ops ids result v w → GrowsTo keeps v w
        both_grow result v w b = grows_onward keeps v b.begun w (begins_grow (Ok b.tx) v b.begun b.begins) (ends_grow b.tx result b.begun w b.ends)

        all_grow : (result : Result Receipt PoolError) (v w : SeenPool) → LocksAndEnds keeps owner ranges plan ops ids result v w → GrowsTo keeps v w
        all_grow (Ok r) v w b = both_grow (Ok r) v w b
        all_grow (Err e) v w (inl s) = begins_grow (Err e) v w s
        all_grow (Err e) v w (inr b) = both_grow (Err e) v w b

    module _ (ranges : List ObjectRange) (plan : List Shape) (ops : List Op) where
      pub transaction_grows : (result : Result Receipt PoolError) (v w : SeenPool) → MakesTransaction keeps owner ranges plan ops result v w → GrowsTo keeps v w
      transaction_grows result v w m = grows_onward keeps v m.ended w (all_grow ranges plan m.ids ops result v m.ended m.ends) (unlocks_grow m.ids m.ended w m.unlocks)

      -- the entry that a committed one adds
      entered_in : (r : Receipt) (u v w x : SeenPool) → GrowsTo keeps u v → MakesTransaction keeps owner ranges plan ops (Ok r) v w → GrowsTo keeps w x → ∥ IsTransacted ops r (viewed_state u) (viewed_state x) ∥₁
      entered_in r u v w x earlier m later =
          let before = grows_onward keeps u v m.ends.begun earlier (begins_grow ranges plan m.ids (Ok m.ends.tx) v m.ends.begun m.ends.begins) in
          let after = grows_onward keeps m.ended w x (unlocks_grow m.ids m.ended w m.unlocks) later in
          ∥∥₁_map {B = IsTransacted ops r (viewed_state u) (viewed_state x)} (seen_in u m.ends.begun m.ended x before m.ends.ends after)
          (λ made. (m.ends.tx, commits_are_seen m.ends.tx ops r (viewed_state u) (viewed_state x) made))

      -- how one is refused: a lock, which it makes only if it has ranges, the begin or the commit
      abbrev pub IsRefusedIn : PoolError → State → State → Type 0
      IsRefusedIn e before after =
          ((ranges ≡ [] → ⊥) × ((r : ObjectRange) × IsRefusal (lock_step owner r) e before after))
          ⊎ (IsRefusal (step.Begin owner plan) e before after ⊎ ((tx : TxId) × IsRefusal (step.Commit tx ops) e before after))

      some_range : (locked : List ObjectRange) (range : ObjectRange) (rest : List ObjectRange) → ranges ≡ locked ++ range ∷ rest → ranges ≡ [] → ⊥
      some_range [] range rest is none = let no_way : range ∷ rest ≡ [] = sym is ∙ none in cc
      some_range (x ∷ xs) range rest is none = let no_way : x ∷ (xs ++ range ∷ rest) ≡ [] = sym is ∙ none in cc

      refused_in : (e : PoolError) (u v w : SeenPool) → GrowsTo keeps u v → MakesTransaction keeps owner ranges plan ops (Err e) v w → ∥ IsRefusedIn e (viewed_state u) (viewed_state w) ∥₁
      refused_in e u v w earlier m = by m.ends
        where
          after : GrowsTo keeps m.ended w
          after = unlocks_grow m.ids m.ended w m.unlocks

          by : LocksAndEnds keeps owner ranges plan ops m.ids (Err e) v m.ended → ∥ IsRefusedIn e (viewed_state u) (viewed_state w) ∥₁
          by (inl (inl s)) =
              ∥∥₁_map {B = IsRefusedIn e (viewed_state u) (viewed_state w)} (seen_in u s.middle m.ended w (grows_onward keeps u v s.middle earlier (locks_grow s.locked m.ids v s.middle s.locks)) s.refused after)
              (λ b. inl (some_range s.locked s.range s.rest s.ranges_are, (s.range, refused_between _ e (viewed_state u) (viewed_state w) b)))
          by (inl (inr (locked, locks, one))) =
              ∥∥₁_map {B = IsRefusedIn e (viewed_state u) (viewed_state w)} (seen_in u locked m.ended w (grows_onward keeps u v locked earlier (locks_grow ranges m.ids v locked locks)) one after)
              (λ b. inr (inl (refused_between _ e (viewed_state u) (viewed_state w) b)))
          by (inr b) =
              ∥∥₁_map {B = IsRefusedIn e (viewed_state u) (viewed_state w)}
              (seen_in u b.begun b.ends.0 w (grows_onward keeps u v b.begun earlier (begins_grow ranges plan m.ids (Ok b.tx) v b.begun b.begins)) b.ends.1 (grows_onward keeps b.ends.0 m.ended w (one_grows b.ends.2.1) after))
              (λ made. inr (inr (b.tx, refused_between _ e (viewed_state u) (viewed_state w) made)))

      module _ (moment : ℕ) where
        paying_grows : (t : Turn SeenPool) → IsPayingTurn keeps moment t → GrowsTo keeps t.took t.left
        paying_grows t (r, passed, (group, is, made)) = grows_by_due keeps (duty.SyncUpTo group moment) r t.took t.left made

        pub earlier_grows : (t : Turn SeenPool) → IsEarlierTurn keeps moment owner ranges plan ops t → GrowsTo keeps t.took t.left
        earlier_grows t (inl (e, again, m)) = transaction_grows (Err e) t.took t.left m
        earlier_grows t (inr p) = paying_grows t p

        pub last_grows : (result : Result Receipt PoolError) (t : Turn SeenPool) → IsLastTurn keeps moment owner ranges plan ops result t → GrowsTo keeps t.took t.left
        last_grows (Ok r) t m = transaction_grows (Ok r) t.took t.left m
        last_grows (Err e) t (inl (m, for_good)) = transaction_grows (Err e) t.took t.left m
        last_grows (Err e) t (inr (group, is, made)) = grows_by_due keeps (duty.SyncUpTo group moment) (Some (reply.Refused e)) t.took t.left made

module _ (owner : Owner) (ranges : List ObjectRange) (plan : List Shape) (ops : List Op) where
  -- a refusal of the transaction, or of a step of a sync
  abbrev pub IsRefusedAtLast : ℕ → PoolError → State → State → Type 0
  IsRefusedAtLast moment e before after = ((ranges ≡ [] → ⊥) × ((r : ObjectRange) × IsRefusal (lock_step owner r) e before after))
      ⊎ (IsRefusal (step.Begin owner plan) e before after ⊎ (((tx : TxId) × IsRefusal (step.Commit tx ops) e before after) ⊎ ((group : Group) × IsSyncingRefusal moment group e before after)))

  with_payments : (keeps : Type 0) (moment : ℕ) (e : PoolError) (before after : State) → IsRefusedIn keeps owner ranges plan ops e before after → IsRefusedAtLast moment e before after
  with_payments keeps moment e before after (inl lock) = inl lock
  with_payments keeps moment e before after (inr (inl begin)) = inr (inl begin)
  with_payments keeps moment e before after (inr (inr commit)) = inr (inr (inl commit))

module _ {Dev : Type 0} {G : Ghosts Dev} (owner : Owner) (ranges : List ObjectRange) (plan : List Shape) (ops : List Op) where
  pub at_last_along : (result : Result Receipt PoolError) (old new : Handle Dev G) → TransactsAtLast owner ranges plan ops result old new → GoesAlong old new
  at_last_along result old new u = record {
    same_pool = u.same_pool;
    onward = grows_onward (IsTrue G.keeps_model) (seen old.seat) u.made.took (seen new.seat) u.made.onward (last_grows (IsTrue G.keeps_model) owner ranges plan ops (moment_of old) result (turn u.made.took (seen new.seat)) u.made.made);
    met_none = u.made.met_none;
  }

  -- an entry that is seen, also after what came before and after what comes later
  at_last_entered : (r : Receipt) (old now done new : Handle Dev G) → GoesAlong old now → TransactsAtLast owner ranges plan ops (Ok r) now done → GoesAlong done new → Sees (IsTransacted ops r) old new
  at_last_entered r old now done new earlier u later =
      entered_in (IsTrue G.keeps_model) owner ranges plan ops r (seen old.seat) u.made.took (seen done.seat) (seen new.seat) (grows_onward (IsTrue G.keeps_model) (seen old.seat) (seen now.seat) u.made.took earlier.onward u.made.onward) u.made.made later.onward

  at_last_refused : (e : PoolError) (old new : Handle Dev G) → TransactsAtLast owner ranges plan ops (Err e) old new → Sees (IsRefusedAtLast owner ranges plan ops (moment_of old) e) old new
  at_last_refused e old new u = by u.made.made
    where
      by : IsLastTurn (IsTrue G.keeps_model) (moment_of old) owner ranges plan ops (Err e) (turn u.made.took (seen new.seat)) → Sees (IsRefusedAtLast owner ranges plan ops (moment_of old) e) old new
      by (inl (m, for_good)) =
          ∥∥₁_map {B = IsRefusedAtLast owner ranges plan ops (moment_of old) e (state_seen old) (state_seen new)} (refused_in (IsTrue G.keeps_model) owner ranges plan ops e (seen old.seat) u.made.took (seen new.seat) u.made.onward m)
          (with_payments owner ranges plan ops (IsTrue G.keeps_model) (moment_of old) e (state_seen old) (state_seen new))
      by (inr (group, is, made)) =
          ∥∥₁_map {B = IsRefusedAtLast owner ranges plan ops (moment_of old) e (state_seen old) (state_seen new)} (refused_due (IsTrue G.keeps_model) (duty.SyncUpTo group (moment_of old)) e (seen old.seat) u.made.took (seen new.seat) u.made.onward made)
          (λ refused. inr (inr (inr (group, refused))))

  pub at_last_seen : (result : Result Receipt PoolError) (old new : Handle Dev G) → TransactsAtLast owner ranges plan ops result old new → IfOk result (λ r. Sees (IsTransacted ops r) old new)
  at_last_seen (Ok r) old new u = at_last_entered r old old new new (along_same old old refl) u (along_same new new refl)
  at_last_seen (Err e) old new u = tt

module _ {Dev : Type 0} {G : Ghosts Dev} (owner : Owner) (ops : List Op) where
  pub entered_by : (r : Receipt) (old now done new : Handle Dev G) → GoesAlong old now → TransactsOrLacks owner ops (Ok r) now done → GoesAlong done new → Sees (IsTransacted ops r) old new
  entered_by r old now done new earlier (inl u) later = at_last_entered owner (lock_ranges (plan_of_ops ops)) (plan_of_ops ops) ops r old now done new earlier u later
  entered_by r old now done new earlier (inr (lacks, same)) later = absurd (let no_way : Ok r ≡ Err error.NoMemory = lacks in cc)

  -- a transaction goes along, whatever its result is
  pub transact_along : (result : Result Receipt PoolError) (old new : Handle Dev G) → TransactsOrLacks owner ops result old new → GoesAlong old new
  transact_along result old new (inl u) = at_last_along owner (lock_ranges (plan_of_ops ops)) (plan_of_ops ops) ops result old new u
  transact_along result old new (inr (lacks, same)) = along_same old new same

  pub refusals_seen : (result : Result Receipt PoolError) (old new : Handle Dev G) → Transacts owner ops result old new → IfErr result (λ e. (e ≡ error.NoMemory) ⊎ Sees (IsTransactRefusal (moment_of old) owner ops e) old new)
  refusals_seen (Ok r) old new u = tt
  refusals_seen (Err e) old new u =
      inr (∥∥₁_map {B = IsTransactRefusal (moment_of old) owner ops e (state_seen old) (state_seen new)} (at_last_refused owner (lock_ranges (plan_of_ops ops)) (plan_of_ops ops) ops e old new u)
      (λ r. elim r as (λ _. IsTransactRefusal (moment_of old) owner ops e (state_seen old) (state_seen new)) [ inl lock ↦ inl lock.1 | inr other ↦ inr other ]))

  -- under locks that the owner had before none is refused
  pub locked_refusals_seen : (result : Result Receipt PoolError) (old new : Handle Dev G) → TransactsLocked owner ops result old new → IfErr result (λ e. (e ≡ error.NoMemory) ⊎ Sees (IsCommitRefusal (moment_of old) owner ops e) old new)
  locked_refusals_seen (Ok r) old new u = tt
  locked_refusals_seen (Err e) old new u =
      inr (∥∥₁_map {B = IsCommitRefusal (moment_of old) owner ops e (state_seen old) (state_seen new)} (at_last_refused owner [] (plan_of_ops ops) ops e old new u)
      (λ r. elim r as (λ _. IsCommitRefusal (moment_of old) owner ops e (state_seen old) (state_seen new)) [ inl lock ↦ absurd (lock.0 refl) | inr other ↦ other ]))
