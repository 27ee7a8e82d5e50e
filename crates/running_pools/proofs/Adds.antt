-- What the calls of a pool's only handle add to the entries of its run: those that it committed, and no others.
use Rattle.std.proofs.Common.{◌≡◌, ◌++◌, ◌∷◌, [], ℕ, Bool, List, Ok, Err, ap, append-nil, append_assoc, false, if◌then◌else◌, inl, inr, map, refl, subst, sym, true, ◌∙◌}
use Rattle.std.specs.Prelude.{◌||◌, All, IfSome, IsTrue, None, Option, Result, Some, is_none, is_some, nat_le}
use Rattle.std.proofs.Math.Logic.{∥∥₁_elim, ∥∥₁_map, ∥∥₁_prop}
use Rattle.std.proofs.lemmas.Bool.{true≢false}
use Rattle.std.proofs.lemmas.List.{map-append}
use Rattle.std.proofs.lemmas.List.Elements.{All-head, All-tail}
use Rattle.base.specs.declared.error.PoolError.{PoolError}
use Rattle.base.specs.declared.error.PoolError.TheVariants.{NoMemory}
use Rattle.base.specs.declared.names.Group.{Group}
use Rattle.base.specs.declared.names.LockId.{LockId}
use Rattle.base.specs.declared.names.Owner.{Owner}
use Rattle.base.specs.declared.names.Receipt.{Receipt}
use Rattle.base.specs.declared.names.TxId.{TxId}
use Rattle.base.specs.declared.operation.Op.{Op}
use Rattle.base.specs.declared.operation.Shape.{Shape}
use Rattle.base.specs.declared.range.ObjectRange.{ObjectRange}
use Rattle.base.specs.declared.step.Reply as declared_reply
use Rattle.base.specs.declared.step.Reply.TheVariants as reply
use Rattle.base.specs.declared.step.Step as declared_step
use Rattle.base.specs.declared.step.Step.TheVariants as step
use Rattle.base.specs.history.History.{Entry}
use Rattle.base.specs.history.Past.{Past}
use Rattle.base.specs.steps.Additions.{past_after}
use Rattle.base.specs.steps.Refusals.{quiesced_group}
use Rattle.base.specs.steps.Runs.{reply_of}
use Rattle.base.specs.steps.Shown.{Shown}
use Rattle.base.specs.steps.Steps.{State}
use Rattle.base.proofs.steps.Additions.{told_past}
use Rattle.device_model.specs.declared.device.SectorDevice.{Ghosts}
use Rattle.pool_tables.specs.declared.duty.Duty.TheVariants as duty
use Rattle.pool_tables.specs.Duties.{closing_step, is_quiescent, step_to_sync, step_up_to, syncing_step}
use Rattle.pool_threads.specs.declared.handle.Handle.{Handle}
use Rattle.pool_threads.specs.Answers.{Makes}
use Rattle.pool_threads.specs.Handles.{kin_of, moment_of, view_seen}
use Rattle.pool_threads.specs.Serves.{AreDue, MakesDue, due_of}
use Rattle.pool_threads.specs.Transacts.{BeginsAndEnds, Ends, IsEarlierTurn, IsLastTurn, Locks, LocksAndEnds, MakesTransaction, TransactsAtLast, TransactsOrLacks, Unlocks, lock_step, plan_of_ops}
use Rattle.pool_threads.specs.Turns.{AreUnbroken}
use Rattle.pool_threads.specs.Views.{IsPoolStep, SeenPool, viewed_state}
use Rattle.pool_threads.specs.Waits.{EndsSyncing, IsSyncTurn, SyncsPool, SyncsUpTo}
use Rattle.transactions.specs.LockRanges.{lock_ranges}
use Rattle.word_lock.specs.declared.rule.Turn.{Turn}
use Rattle.word_lock.specs.Seats.{seen}
use Rattle.word_lock.specs.Turns.{turn}

abbrev pub ops_of : List Entry → List (List Op)
ops_of entries = map (λ (e : Entry). e.ops) entries

-- Entries of these operations follow those of the earlier past, in this order, upon the same contents.
pub record Adds (all : List (List Op)) (old new : Past) : Type 0 where
  pub base : new.base ≡ old.base
  pub added : List Entry
  pub entries : new.entries ≡ old.entries ++ added
  pub ops : ops_of added ≡ all

-- no entry follows
adds_none : (old new : Past) → new.base ≡ old.base → new.entries ≡ old.entries → Adds [] old new
adds_none old new base entries = record { base = base; added = []; entries = entries ∙ sym (append-nil old.entries); ops = refl }

pub adds_same : (old new : Past) → new ≡ old → Adds [] old new
adds_same old new same = adds_none old new (ap (λ (p : Past). p.base) same) (ap (λ (p : Past). p.entries) same)

adds_on : (xs ys : List (List Op)) (a b c : Past) → Adds xs a b → Adds ys b c → Adds (xs ++ ys) a c
adds_on xs ys a b c first later = record {
  base = later.base ∙ first.base;
  added = first.added ++ later.added;
  entries = later.entries ∙ ap (λ (l : List Entry). l ++ later.added) first.entries ∙ append_assoc a.entries first.added later.added;
  ops = map-append (λ (e : Entry). e.ops) first.added later.added ∙ ap (λ (l : List (List Op)). l ++ ops_of later.added) first.ops ∙ ap (λ (l : List (List Op)). xs ++ l) later.ops;
}

pub both_add : (xs ys : List (List Op)) (a b c : Past) → ∥ Adds xs a b ∥₁ → ∥ Adds ys b c ∥₁ → ∥ Adds (xs ++ ys) a c ∥₁
both_add xs ys a b c first later = ∥∥₁_elim first ∥∥₁_prop (λ one. ∥∥₁_map {B = Adds (xs ++ ys) a c} later (λ more. adds_on xs ys a b c one more))

-- the entries stand if no operations were added
no_ops : (added : List Entry) → ops_of added ≡ [] → added ≡ []
no_ops [] none = refl
no_ops (e ∷ added) none = absurd (let no_way : e.ops ∷ ops_of added ≡ [] = none in cc)

pub same_entries : (old new : Past) → Adds [] old new → new.entries ≡ old.entries
same_entries old new adds = adds.entries ∙ ap (λ (l : List Entry). old.entries ++ l) (no_ops adds.added adds.ops) ∙ append-nil old.entries

abbrev is_commit : declared_step.Step → Bool
is_commit (step.Commit tx ops) = true
is_commit _ = false

-- a step that is no commit adds none, nor does a commit that is refused
step_adds_none : (s : declared_step.Step) (r : declared_reply.Reply) (old : State) → is_commit s ≡ false → Adds [] old.past (past_after s r old)
step_adds_none (step.Commit tx ops) r old none = absurd (true≢false none)
step_adds_none (step.Lock owner n range mode) (reply.Locked id) old none = adds_none old.past (past_after (step.Lock owner n range mode) (reply.Locked id) old) refl refl
step_adds_none (step.Lock owner n range mode) r old none = adds_none old.past (past_after (step.Lock owner n range mode) r old) refl refl
step_adds_none (step.LockAppend owner n) (reply.Appended id range) old none = adds_none old.past (past_after (step.LockAppend owner n) (reply.Appended id range) old) refl refl
step_adds_none (step.LockAppend owner n) r old none = adds_none old.past (past_after (step.LockAppend owner n) r old) refl refl
step_adds_none (step.Unlock owner id) reply.Done old none = adds_none old.past (past_after (step.Unlock owner id) reply.Done old) refl refl
step_adds_none (step.Unlock owner id) r old none = adds_none old.past (past_after (step.Unlock owner id) r old) refl refl
step_adds_none (step.Begin owner plan) (reply.Began tx group) old none = adds_none old.past (past_after (step.Begin owner plan) (reply.Began tx group) old) refl refl
step_adds_none (step.Begin owner plan) r old none = adds_none old.past (past_after (step.Begin owner plan) r old) refl refl
step_adds_none (step.Abort tx) reply.Done old none = adds_none old.past (past_after (step.Abort tx) reply.Done old) refl refl
step_adds_none (step.Abort tx) r old none = adds_none old.past (past_after (step.Abort tx) r old) refl refl
step_adds_none step.SyncStep (reply.Synced group) old none = adds_none old.past (past_after step.SyncStep (reply.Synced group) old) refl refl
step_adds_none step.SyncStep r old none = adds_none old.past (past_after step.SyncStep r old) refl refl
step_adds_none step.LogFlush reply.Flushed old none = adds_none old.past (past_after step.LogFlush reply.Flushed old) refl refl
step_adds_none step.LogFlush r old none = adds_none old.past (past_after step.LogFlush r old) refl refl
step_adds_none s r old none = adds_none old.past (past_after s r old) refl refl

refused_commit : (tx : TxId) (ops : List Op) (e : PoolError) (old : State) → Adds [] old.past (past_after (step.Commit tx ops) (reply.Refused e) old)
refused_commit tx ops e old = adds_none old.past (past_after (step.Commit tx ops) (reply.Refused e) old) refl refl

one_commit : (tx : TxId) (ops : List Op) (r : Receipt) (old : State) → Adds (ops ∷ []) old.past (past_after (step.Commit tx ops) (reply.Committed r) old)
one_commit tx ops r old = record { base = refl; added = record { group = r.group.0; tx = tx.0; ops = ops } ∷ []; entries = refl; ops = refl }

-- what a transaction of this result adds
abbrev pub added_by : Result Receipt PoolError → List Op → List (List Op)
added_by (Ok r) ops = ops ∷ []
added_by (Err e) ops = []

-- what lies between two views
abbrev AddsBetween : List (List Op) → SeenPool → SeenPool → Type 0
AddsBetween all v w = ∥ Adds all v.past w.past ∥₁

same_view : (v w : SeenPool) → w ≡ v → AddsBetween [] v w
same_view v w same = ∣ adds_same v.past w.past (ap (λ (u : SeenPool). u.past) same) ∣₁

from_view : (all : List (List Op)) (u v w : SeenPool) → v ≡ u → AddsBetween all v w → AddsBetween all u w
from_view all u v w same adds = subst (λ (x : SeenPool). AddsBetween all x w) same adds

module _ (keeps : Type 0) where
  told_adds : (all : List (List Op)) (s : declared_step.Step) (r : declared_reply.Reply) (v w : SeenPool) → Adds all v.past (past_after s r (viewed_state v)) → IsPoolStep keeps s r v w → AddsBetween all v w
  told_adds all s r v w adds one =
      ∥∥₁_map {B = Adds all v.past w.past} one.step (λ did. subst (λ (p : Past). Adds all v.past p) (sym (told_past ⊥ [] s r (viewed_state v) (viewed_state w) did)) adds)

  step_adds : (s : declared_step.Step) (r : declared_reply.Reply) (v w : SeenPool) → is_commit s ≡ false → IsPoolStep keeps s r v w → AddsBetween [] v w
  step_adds s r v w none one = told_adds [] s r v w (step_adds_none s r (viewed_state v) none) one

  -- a transaction in one turn
  module _ (owner : Owner) where
    locks_add : (rs : List ObjectRange) (ids : List LockId) (v w : SeenPool) → Locks keeps owner rs ids v w → AddsBetween [] v w
    locks_add [] [] v w same = same_view v w same
    locks_add (r ∷ rs) (id ∷ ids) v w (next, one, rest) = both_add [] [] v.past next.past w.past (step_adds (lock_step owner r) (reply.Locked id) v next refl one) (locks_add rs ids next w rest)
    locks_add [] (id ∷ ids) v w h = absurd h
    locks_add (r ∷ rs) [] v w h = absurd h

    unlocks_add : (ids : List LockId) (v w : SeenPool) → Unlocks keeps owner ids v w → AddsBetween [] v w
    unlocks_add [] v w same = same_view v w same
    unlocks_add (id ∷ ids) v w (next, answer, one, rest) =
        both_add [] [] v.past next.past w.past (step_adds (step.Unlock owner id) (reply_of (λ _. reply.Done) answer) v next refl one) (unlocks_add ids next w rest)

    ends_add : (tx : TxId) (ops : List Op) (result : Result Receipt PoolError) (v w : SeenPool) → Ends keeps tx ops result v w → AddsBetween (added_by result ops) v w
    ends_add tx ops (Ok r) v w one = told_adds (ops ∷ []) (step.Commit tx ops) (reply.Committed r) v w (one_commit tx ops r (viewed_state v)) one
    ends_add tx ops (Err e) v w (failed, refused, (answer, aborted)) =
        both_add [] [] v.past failed.past w.past (told_adds [] (step.Commit tx ops) (reply.Refused e) v failed (refused_commit tx ops e (viewed_state v)) refused)
        (step_adds (step.Abort tx) (reply_of (λ _. reply.Done) answer) failed w refl aborted)

    module _ (ranges : List ObjectRange) (plan : List Shape) (ops : List Op) where
      begun_add : (ids : List LockId) (result : Result Receipt PoolError) (v w : SeenPool) → BeginsAndEnds keeps owner ranges plan ops ids result v w → AddsBetween (added_by result ops) v w
      begun_add ids result v w b =
          let locked = b.begins.0 in
          let begun = both_add [] [] v.past locked.past b.begun.past (locks_add ranges ids v locked b.begins.1) (step_adds (step.Begin owner plan) (reply.Began b.tx b.begins.2.0) locked b.begun refl b.begins.2.1) in
          both_add [] (added_by result ops) v.past b.begun.past w.past begun (ends_add b.tx ops result b.begun w b.ends)

      tried_add : (ids : List LockId) (result : Result Receipt PoolError) (v w : SeenPool) → LocksAndEnds keeps owner ranges plan ops ids result v w → AddsBetween (added_by result ops) v w
      tried_add ids (Ok r) v w b = begun_add ids (Ok r) v w b
      tried_add ids (Err e) v w (inr b) = begun_add ids (Err e) v w b
      tried_add ids (Err e) v w (inl (inl s)) =
          both_add [] [] v.past s.middle.past w.past (locks_add s.locked ids v s.middle s.locks) (step_adds (lock_step owner s.range) (reply.Refused e) s.middle w refl s.refused)
      tried_add ids (Err e) v w (inl (inr (locked, locks, refused))) =
          both_add [] [] v.past locked.past w.past (locks_add ranges ids v locked locks) (step_adds (step.Begin owner plan) (reply.Refused e) locked w refl refused)

      transaction_adds : (result : Result Receipt PoolError) (v w : SeenPool) → MakesTransaction keeps owner ranges plan ops result v w → AddsBetween (added_by result ops) v w
      transaction_adds (Ok r) v w m = both_add (ops ∷ []) [] v.past m.ended.past w.past (tried_add m.ids (Ok r) v m.ended m.ends) (unlocks_add m.ids m.ended w m.unlocks)
      transaction_adds (Err e) v w m = both_add [] [] v.past m.ended.past w.past (tried_add m.ids (Err e) v m.ended m.ends) (unlocks_add m.ids m.ended w m.unlocks)

  -- no step that is due for a sync is a commit
  abbrev IsNoCommit : Option declared_step.Step → Type 0
  IsNoCommit o = IfSome o (λ s. is_commit s ≡ false)

  either : (b : Bool) (o q : Option declared_step.Step) → IsNoCommit o → IsNoCommit q → IsNoCommit (if b then o else q)
  either true o q first other = first
  either false o q first other = other

  syncing_is : (moment : ℕ) (s : Shown) → IsNoCommit (syncing_step moment s)
  syncing_is moment s =
      either (s.suspended || is_some s.line.syncing) (Some step.SyncStep) (if is_some (quiesced_group s.line) then Some (step.StartSync moment) else None) refl
      (either (is_some (quiesced_group s.line)) (Some (step.StartSync moment)) None refl tt)

  closing_is : (s : Shown) → IsNoCommit (closing_step s)
  closing_is s = either (is_none s.line.middle) (Some step.CloseGroup) (if is_quiescent s then Some step.MarkQuiesced else None) refl (either (is_quiescent s) (Some step.MarkQuiesced) None refl tt)

  due_is : (group moment : ℕ) (s : Shown) → IsNoCommit (step_up_to group moment s)
  due_is group moment s =
      either (nat_le group s.line.synced) None (step_to_sync moment s) tt
      (either (is_some (syncing_step moment s)) (syncing_step moment s) (closing_step s) (syncing_is moment s) (closing_is s))

  due_step_is : (o : Option declared_step.Step) (s : declared_step.Step) → IsNoCommit o → o ≡ Some s → is_commit s ≡ false
  due_step_is o s all is = subst IsNoCommit is all

  module _ (group : Group) (moment : ℕ) where
    dues_add : (rs : List declared_reply.Reply) (v w : SeenPool) → AreDue keeps (duty.SyncUpTo group moment) rs v w → AddsBetween [] v w
    dues_add [] v w same = same_view v w same
    dues_add (r ∷ rs) v w (s, middle, due, one, rest) =
        both_add [] [] v.past middle.past w.past
        (step_adds s r v middle (due_step_is (due_of (duty.SyncUpTo group moment) v) s (due_is group.0 moment (viewed_state v).shown) due) one) (dues_add rs middle w rest)

    served_adds : (r : Option declared_reply.Reply) (v w : SeenPool) → MakesDue keeps (duty.SyncUpTo group moment) r v w → AddsBetween [] v w
    served_adds None v w made = same_view v w made.1
    served_adds (Some r) v w made = dues_add (made.0 ++ r ∷ []) v w made.2

    sync_turn_adds : (t : Turn SeenPool) → IsSyncTurn keeps moment group t → AddsBetween [] t.took t.left
    sync_turn_adds t (r, passed, made) = served_adds r t.took t.left made

    last_sync_adds : (result : Result (Unit {0}) PoolError) (t : Turn SeenPool) → EndsSyncing keeps moment group result t → AddsBetween [] t.took t.left
    last_sync_adds (Ok done) t (is, synced) = sync_turn_adds t is
    last_sync_adds (Err e) t made = served_adds (Some (reply.Refused e)) t.took t.left made

  module _ (moment : ℕ) (owner : Owner) (ranges : List ObjectRange) (plan : List Shape) (ops : List Op) where
    earlier_adds : (t : Turn SeenPool) → IsEarlierTurn keeps moment owner ranges plan ops t → AddsBetween [] t.took t.left
    earlier_adds t (inl (e, again, m)) = transaction_adds owner ranges plan ops (Err e) t.took t.left m
    earlier_adds t (inr (r, passed, (group, is, made))) = served_adds group moment r t.took t.left made

    last_adds : (result : Result Receipt PoolError) (t : Turn SeenPool) → IsLastTurn keeps moment owner ranges plan ops result t → AddsBetween (added_by result ops) t.took t.left
    last_adds (Ok r) t m = transaction_adds owner ranges plan ops (Ok r) t.took t.left m
    last_adds (Err e) t (inl (m, for_good)) = transaction_adds owner ranges plan ops (Err e) t.took t.left m
    last_adds (Err e) t (inr (group, is, made)) = served_adds group moment (Some (reply.Refused e)) t.took t.left made

-- turns of which each adds none, with nothing between them
line_adds : (P : Turn SeenPool → Type 0) → ((t : Turn SeenPool) → P t → AddsBetween [] t.took t.left) → (ts : List (Turn SeenPool)) (v w : SeenPool) → All P ts → AreUnbroken v ts w → AddsBetween [] v w
line_adds P each [] v w all line = same_view v w line
line_adds P each (t ∷ ts) v w all line =
    both_add [] [] v.past t.left.past w.past (from_view [] v t.took t.left line.0 (each t (All-head P t ts all))) (line_adds P each ts t.left w (All-tail P t ts all) line.1)

module _ {Dev : Type 0} {G : Ghosts Dev} where
  abbrev pub past_seen : Handle Dev G → Past
  past_seen h = (view_seen h).past

  -- if the handle is the only one of its pool, it stays so, and these entries were added
  abbrev pub AddsAlone : List (List Op) → Handle Dev G → Handle Dev G → Type 0
  AddsAlone all old new = kin_of old ≡ 0 → (kin_of new ≡ 0) × ∥ Adds all (past_seen old) (past_seen new) ∥₁

  pub alone_same : (old new : Handle Dev G) → new ≡ old → AddsAlone [] old new
  alone_same old new same = λ only.
      (ap (λ (h : Handle Dev G). kin_of h) same ∙ only, ∣ adds_same (past_seen old) (past_seen new) (ap (λ (h : Handle Dev G). past_seen h) same) ∣₁)

  pub alone_on : (xs ys : List (List Op)) (old now new : Handle Dev G) → AddsAlone xs old now → AddsAlone ys now new → AddsAlone (xs ++ ys) old new
  alone_on xs ys old now new first later = λ only.
      let one = first only in
      let more = later one.0 in
      (more.0, both_add xs ys (past_seen old) (past_seen now) (past_seen new) one.1 more.1)

  pub made_alone : (s : declared_step.Step) (r : declared_reply.Reply) (old new : Handle Dev G) → is_commit s ≡ false → Makes s r old new → AddsAlone [] old new
  made_alone s r old new none m = λ only. (
    m.made.met_none.0 ∙ only,
    from_view [] (view_seen old) m.made.took (view_seen new) (m.made.alone only) (step_adds (IsTrue G.keeps_model) s r m.made.took (view_seen new) none m.made.made),
  )

  transacts_alone : (owner : Owner) (ranges : List ObjectRange) (plan : List Shape) (ops : List Op) (result : Result Receipt PoolError) (old new : Handle Dev G) → TransactsAtLast owner ranges plan ops result old new → AddsAlone (added_by result ops) old new
  transacts_alone owner ranges plan ops result old new u = λ only.
      let keeps : Type 0 = IsTrue G.keeps_model in
      let earlier : Turn SeenPool → Type 0 = IsEarlierTurn keeps (moment_of old) owner ranges plan ops in (
        u.made.met_none.0 ∙ only,
        both_add [] (added_by result ops) (past_seen old) u.made.took.past (past_seen new)
            (line_adds earlier (earlier_adds keeps (moment_of old) owner ranges plan ops) u.made.had (view_seen old) u.made.took u.made.each (u.made.alone only))
            (last_adds keeps (moment_of old) owner ranges plan ops result (turn u.made.took (view_seen new)) u.made.made),
      )

  lacks_alone : (ops : List Op) (result : Result Receipt PoolError) (old new : Handle Dev G) → result ≡ Err NoMemory → new ≡ old → AddsAlone (added_by result ops) old new
  lacks_alone ops result old new is same = subst (λ (r : Result Receipt PoolError). AddsAlone (added_by r ops) old new) (sym is) (alone_same old new same)

  pub transacted_alone : (owner : Owner) (ops : List Op) (result : Result Receipt PoolError) (old new : Handle Dev G) → TransactsOrLacks owner ops result old new → AddsAlone (added_by result ops) old new
  transacted_alone owner ops result old new (inl u) = transacts_alone owner (lock_ranges (plan_of_ops ops)) (plan_of_ops ops) ops result old new u
  transacted_alone owner ops result old new (inr (is, same)) = lacks_alone ops result old new is same

  up_to_alone : (group : Group) (result : Result (Unit {0}) PoolError) (old new : Handle Dev G) → SyncsUpTo group result old new → AddsAlone [] old new
  up_to_alone group result old new u = λ only.
      let keeps : Type 0 = IsTrue G.keeps_model in (
        u.made.met_none.0 ∙ only,
        both_add [] [] (past_seen old) u.made.took.past (past_seen new)
            (line_adds (IsSyncTurn keeps (moment_of old) group) (sync_turn_adds keeps group (moment_of old)) u.made.had (view_seen old) u.made.took u.made.each (u.made.alone only))
            (last_sync_adds keeps group (moment_of old) result (turn u.made.took (view_seen new)) u.made.made),
      )

  pub synced_alone : (answer : Result Group PoolError) (old new : Handle Dev G) → SyncsPool answer old new → AddsAlone [] old new
  synced_alone answer old new s = λ only.
      let rest = up_to_alone s.group s.result s.looked new s.syncs (s.looks.met_none.0 ∙ only) in
      (rest.0, from_view [] (view_seen old) (view_seen s.looked) (view_seen new) (s.looks.alone only) rest.1)
