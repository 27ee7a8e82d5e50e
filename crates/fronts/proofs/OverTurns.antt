-- What holds of each step of a pool, and goes on from one step to the next, holds of each orderly turn, and of such turns
-- one after another.
use Rattle.std.proofs.Common.{◌≡◌, ◌++◌, ◌∷◌, [], ℕ, Bool, List, Ok, Err, false, if◌then◌else◌, inl, inr, refl, subst, true}
use Rattle.std.specs.Prelude.{◌||◌, All, IfSome, None, Option, Result, Some, is_none, is_some, nat_le}
use Rattle.std.proofs.lemmas.List.Elements.{All-head, All-tail}
use Rattle.base.specs.declared.error.PoolError.{PoolError}
use Rattle.base.specs.declared.error.PoolError.TheVariants as error
use Rattle.base.specs.declared.names.Group.{Group}
use Rattle.base.specs.declared.names.LockId.{LockId}
use Rattle.base.specs.declared.names.ObjectId.{ObjectId}
use Rattle.base.specs.declared.names.Owner.{Owner}
use Rattle.base.specs.declared.names.Receipt.{Receipt}
use Rattle.base.specs.declared.names.TxId.{TxId}
use Rattle.base.specs.declared.operation.Op.{Op}
use Rattle.base.specs.declared.operation.Shape.{Shape}
use Rattle.base.specs.declared.range.ObjectRange.{ObjectRange}
use Rattle.base.specs.declared.range.Range.{Range}
use Rattle.base.specs.declared.step.Reply as declared_reply
use Rattle.base.specs.declared.step.Reply.TheVariants as reply
use Rattle.base.specs.declared.step.Step as declared_step
use Rattle.base.specs.declared.step.Step.TheVariants as step
use Rattle.base.specs.steps.Logs.{awaits_flush}
use Rattle.base.specs.steps.Refusals.{quiesced_group}
use Rattle.base.specs.steps.Runs.{reply_of}
use Rattle.base.specs.steps.Shown.{Shown}
use Rattle.pool_tables.specs.declared.duty.Duty.{Duty}
use Rattle.pool_tables.specs.declared.duty.Duty.TheVariants as duty
use Rattle.pool_tables.specs.Duties.{closing_step, due_step, is_log_pending, is_quiescent, log_step, quiescing_step, step_to_sync, step_up_to, syncing_step, wants_close}
use Rattle.pool_threads.specs.Fetches.{IsFetchTurn, ReadsUnderLock, reader_step}
use Rattle.pool_threads.specs.Serves.{AreDue, MakesDue, due_of}
use Rattle.pool_threads.specs.Transacts.{BeginsAndEnds, Ends, Locks, LocksAndEnds, MakesTransaction, StopsAtLock, Unlocks, lock_step}
use Rattle.pool_threads.specs.Turns.{AreUnbroken}
use Rattle.pool_threads.specs.Views.{GrowsTo, IsPoolStep, SeenPool, viewed_state}
use Rattle.word_lock.specs.declared.rule.Turn.{Turn}
use Rattle.word_lock.specs.Turns.{IsTurnLine}
use Rattle.fronts.specs.RisingPools.{is_commit}
use Rattle.fronts.specs.SharedPools.{IsOrderlyTurn}
use Rattle.fronts.specs.SharedPools.IsOrderlyTurn.{by_duty, by_no_change, by_one_step, by_read, by_transaction}

-- no step that is due is a commit
abbrev IsNoCommit : Option declared_step.Step → Type 0
IsNoCommit o = IfSome o (λ s. (r : declared_reply.Reply) → is_commit s r ≡ false)

either : (b : Bool) (o q : Option declared_step.Step) → IsNoCommit o → IsNoCommit q → IsNoCommit (if b then o else q)
either true o q first other = first
either false o q first other = other

log_is : (s : Shown) → IsNoCommit (log_step s)
log_is s = either (s.suspended || is_log_pending s) (Some step.LogWrite) (if awaits_flush s.log then Some step.LogFlush else None) (λ r. refl) (either (awaits_flush s.log) (Some step.LogFlush) None (λ r. refl) tt)

quiescing_is : (s : Shown) → IsNoCommit (quiescing_step s)
quiescing_is s = either (s.suspended || wants_close s) (Some step.CloseGroup) (if is_quiescent s then Some step.MarkQuiesced else None) (λ r. refl) (either (is_quiescent s) (Some step.MarkQuiesced) None (λ r. refl) tt)

syncing_is : (moment : ℕ) (s : Shown) → IsNoCommit (syncing_step moment s)
syncing_is moment s =
    either (s.suspended || is_some s.line.syncing) (Some step.SyncStep) (if is_some (quiesced_group s.line) then Some (step.StartSync moment) else None) (λ r. refl)
    (either (is_some (quiesced_group s.line)) (Some (step.StartSync moment)) None (λ r. refl) tt)

closing_is : (s : Shown) → IsNoCommit (closing_step s)
closing_is s = either (is_none s.line.middle) (Some step.CloseGroup) (if is_quiescent s then Some step.MarkQuiesced else None) (λ r. refl) (either (is_quiescent s) (Some step.MarkQuiesced) None (λ r. refl) tt)

up_to_is : (group moment : ℕ) (s : Shown) → IsNoCommit (step_up_to group moment s)
up_to_is group moment s =
    either (nat_le group s.line.synced) None (step_to_sync moment s) tt
    (either (is_some (syncing_step moment s)) (syncing_step moment s) (closing_step s) (syncing_is moment s) (closing_is s))

due_is : (d : Duty) (s : Shown) → IsNoCommit (due_step d s)
due_is duty.CommitLog s = log_is s
due_is duty.Quiesce s = quiescing_is s
due_is (duty.Sync moment) s = syncing_is moment s
due_is (duty.SyncUpTo group moment) s = up_to_is group.0 moment s

is_none_of : (o : Option declared_step.Step) (s : declared_step.Step) → IsNoCommit o → o ≡ Some s → (r : declared_reply.Reply) → is_commit s r ≡ false
is_none_of o s all is = subst IsNoCommit is all

-- The relation leads from a view to itself, over each step that is no commit, and from one of them to the next.
module _ (keeps : Type 0) (L : SeenPool → SeenPool → Type 0) (same : (v w : SeenPool) → w ≡ v → L v w) (on : (u v w : SeenPool) → L u v → L v w → L u w)
    (one : (s : declared_step.Step) (r : declared_reply.Reply) (v w : SeenPool) → is_commit s r ≡ false → IsPoolStep keeps s r v w → L v w) where
  -- the locks of a transaction
  module _ (owner : Owner) where
    over_locks : (rs : List ObjectRange) (ids : List LockId) (v w : SeenPool) → Locks keeps owner rs ids v w → L v w
    over_locks [] [] v w is = same v w is
    over_locks (r ∷ rs) (id ∷ ids) v w (next, first, rest) = on v next w (one (lock_step owner r) (reply.Locked id) v next refl first) (over_locks rs ids next w rest)
    over_locks [] (id ∷ ids) v w h = absurd h
    over_locks (r ∷ rs) [] v w h = absurd h

    pub over_unlocks : (ids : List LockId) (v w : SeenPool) → Unlocks keeps owner ids v w → L v w
    over_unlocks [] v w is = same v w is
    over_unlocks (id ∷ ids) v w (next, answer, first, rest) = on v next w (one (step.Unlock owner id) (reply_of (λ _. reply.Done) answer) v next refl first) (over_unlocks ids next w rest)

    over_stop : (rs : List ObjectRange) (ids : List LockId) (e : PoolError) (v w : SeenPool) → StopsAtLock keeps owner rs ids e v w → L v w
    over_stop rs ids e v w s = on v s.middle w (over_locks s.locked ids v s.middle s.locks) (one (lock_step owner s.range) (reply.Refused e) s.middle w refl s.refused)

  -- the steps that are due
  over_dues : (d : Duty) (rs : List declared_reply.Reply) (v w : SeenPool) → AreDue keeps d rs v w → L v w
  over_dues d [] v w is = same v w is
  over_dues d (r ∷ rs) v w (s, middle, due, first, rest) = on v middle w (one s r v middle (is_none_of (due_of d v) s (due_is d (viewed_state v).shown) due r) first) (over_dues d rs middle w rest)

  pub over_duty : (d : Duty) (r : Option declared_reply.Reply) (v w : SeenPool) → MakesDue keeps d r v w → L v w
  over_duty d None v w made = same v w made.1
  over_duty d (Some r) v w made = over_dues d (made.0 ++ r ∷ []) v w made.2

  -- it leads over a turn
  abbrev Over : Turn SeenPool → Type 0
  Over t = L t.took t.left

  pub over_line : (P : Turn SeenPool → Type 0) → ((t : Turn SeenPool) → P t → Over t) → (ts : List (Turn SeenPool)) (v w : SeenPool) → All P ts → AreUnbroken v ts w → L v w
  over_line P each [] v w all line = same v w line
  over_line P each (t ∷ ts) v w all line = on v t.left w (subst (λ (u : SeenPool). L u t.left) line.0 (each t (All-head P t ts all))) (over_line P each ts t.left w (All-tail P t ts all) line.1)

  -- a read under a lock
  module _ (owner : Owner) (object : ObjectId) (range : Range) where
    over_read : (result : Result (List ℕ) PoolError) (v w : SeenPool) → ReadsUnderLock keeps owner object range result v w → L v w
    over_read result v w t =
        on v t.locked w (one (reader_step owner object range) (reply.Locked t.id) v t.locked refl t.locks)
        (on t.locked t.read w (one (step.Read owner object range) (reply_of (λ bytes. reply.Bytes bytes) result) t.locked t.read refl t.reads)
        (one (step.Unlock owner t.id) (reply_of (λ _. reply.Done) t.answer) t.read w refl t.unlocks))

    over_fetch : (o : Option (Result (List ℕ) PoolError)) (t : Turn SeenPool) → IsFetchTurn keeps owner object range o t → Over t
    over_fetch None t (refused, free) = one (reader_step owner object range) (reply.Refused error.Busy) t.took t.left refl refused
    over_fetch (Some (Ok bytes)) t under = over_read (Ok bytes) t.took t.left under
    over_fetch (Some (Err e)) t (inl (refused, own)) = one (reader_step owner object range) (reply.Refused e) t.took t.left refl refused
    over_fetch (Some (Err e)) t (inr under) = over_read (Err e) t.took t.left under

  -- and over a begin with its commit
  module _ (two : (owner : Owner) (plan : List Shape) (tx : TxId) (group : Group) (ops : List Op) (receipt : Receipt) (v m w : SeenPool) → IsPoolStep keeps (step.Begin owner plan) (reply.Began tx group) v m
      → IsPoolStep keeps (step.Commit tx ops) (reply.Committed receipt) m w → L v w) where
    module _ (owner : Owner) (ranges : List ObjectRange) (plan : List Shape) (ops : List Op) where
      over_begun : (ids : List LockId) (result : Result Receipt PoolError) (v w : SeenPool) → BeginsAndEnds keeps owner ranges plan ops ids result v w → L v w
      over_begun ids result v w b = on v b.begins.0 w (over_locks owner ranges ids v b.begins.0 b.begins.1) (over_ends b.tx b.begins.2.0 b.begins.0 b.begun b.begins.2.1 result b.ends)
        where
          over_ends : (tx : TxId) (group : Group) (locked begun : SeenPool) → IsPoolStep keeps (step.Begin owner plan) (reply.Began tx group) locked begun → (r : Result Receipt PoolError) → Ends keeps tx ops r begun w → L locked w
          over_ends tx group locked begun begins (Ok receipt) ends = two owner plan tx group ops receipt locked begun w begins ends
          over_ends tx group locked begun begins (Err e) (failed, refused, (answer, aborted)) =
              on locked begun w (one (step.Begin owner plan) (reply.Began tx group) locked begun refl begins)
              (on begun failed w (one (step.Commit tx ops) (reply.Refused e) begun failed refl refused) (one (step.Abort tx) (reply_of (λ _. reply.Done) answer) failed w refl aborted))

      over_tried : (ids : List LockId) (result : Result Receipt PoolError) (v w : SeenPool) → LocksAndEnds keeps owner ranges plan ops ids result v w → L v w
      over_tried ids (Ok r) v w b = over_begun ids (Ok r) v w b
      over_tried ids (Err e) v w (inr b) = over_begun ids (Err e) v w b
      over_tried ids (Err e) v w (inl (inl s)) = over_stop owner ranges ids e v w s
      over_tried ids (Err e) v w (inl (inr (locked, locks, refused))) = on v locked w (over_locks owner ranges ids v locked locks) (one (step.Begin owner plan) (reply.Refused e) locked w refl refused)

      pub over_transaction : (result : Result Receipt PoolError) (v w : SeenPool) → MakesTransaction keeps owner ranges plan ops result v w → L v w
      over_transaction result v w m = on v m.ended w (over_tried m.ids result v m.ended m.ends) (over_unlocks owner m.ids m.ended w m.unlocks)

    pub over_orderly : (t : Turn SeenPool) → IsOrderlyTurn keeps t → Over t
    over_orderly t (by_no_change is) = same t.took t.left is
    over_orderly t (by_one_step s r none made) = one s r t.took t.left none made
    over_orderly t (by_transaction owner ranges plan ops result made) = over_transaction owner ranges plan ops result t.took t.left made
    over_orderly t (by_duty d r made) = over_duty d r t.took t.left made
    over_orderly t (by_read owner object range result made) = over_fetch owner object range result t made

    -- over those of one handle, with nothing between them
    pub over_own : (ts : List (Turn SeenPool)) (v w : SeenPool) → All (IsOrderlyTurn keeps) ts → AreUnbroken v ts w → L v w
    over_own = over_line (IsOrderlyTurn keeps) over_orderly

    -- and over those of all handles
    pub over_all : (ts : List (ℕ × Turn SeenPool)) (v w : SeenPool) → IsTurnLine (GrowsTo keeps) v ts w → All (λ (t : ℕ × Turn SeenPool). IsOrderlyTurn keeps t.1) ts → L v w
    over_all [] v w line all = same v w line
    over_all (t ∷ ts) v w line all =
        on v t.1.left w (subst (λ (u : SeenPool). L u t.1.left) line.0 (over_orderly t.1 (All-head (λ (t : ℕ × Turn SeenPool). IsOrderlyTurn keeps t.1) t ts all)))
        (over_all ts t.1.left w line.2 (All-tail (λ (t : ℕ × Turn SeenPool). IsOrderlyTurn keeps t.1) t ts all))
