-- Each turn of a transaction leaves the locks and the transactions that it found.
use Rattle.std.proofs.Common.{◌≡◌, ℕ, ◌+◌, ◌++◌, ◌∷◌, [], List, append-nil, append_assoc, inl, inr, refl, sym, ap, subst, ◌∙◌}
use Rattle.std.specs.Prelude.{◌⊎◌, false, IsTrue, Result, Ok, Err, Some}
use Rattle.std.proofs.Math.Logic.{∥∥₁_map, ∥∥₁_elim, ∥∥₁_prop}
use Rattle.std.proofs.lemmas.List.Elements.{All-append, All-head, All-nil, All-push, All-tail, All-weaker}
use Rattle.base.specs.declared.error.PoolError.{PoolError}
use Rattle.base.specs.declared.names.LockId.{LockId}
use Rattle.base.specs.declared.names.Owner.{Owner}
use Rattle.base.specs.declared.names.Receipt.{Receipt}
use Rattle.base.specs.declared.operation.Op.{Op}
use Rattle.base.specs.declared.operation.Shape.{Shape}
use Rattle.base.specs.declared.range.Mode.TheVariants.{Writer}
use Rattle.base.specs.declared.range.ObjectRange.{ObjectRange}
use Rattle.base.specs.declared.step.Step.TheVariants as step
use Rattle.base.specs.declared.step.Reply.TheVariants as reply
use Rattle.base.specs.steps.Tables.{AreTablesExplained}
use Rattle.base.specs.steps.Locks.{Grant}
use Rattle.base.specs.steps.Runs.{Step}
use Rattle.device_model.specs.declared.device.SectorDevice.{Ghosts}
use Rattle.pool_threads.specs.declared.handle.Handle.{Handle}
use Rattle.pool_threads.specs.Answers.{state_seen}
use Rattle.pool_threads.specs.Handles.{moment_of}
use Rattle.pool_threads.specs.Transacts.{AreReleased, Ends, IsEarlierTurn, IsLastTurn, LeavesNothing, Locks, LocksAndEnds, BeginsAndEnds, MakesTransaction, ReleasesInEach, TransactsAtLast, Unlocks}
use Rattle.pool_threads.specs.Turns.{AreUnbroken}
use Rattle.pool_threads.specs.Views.{SeenPool, viewed_state}
use Rattle.pool_threads.proofs.PaidSteps.{payment_releases, released_on, released_same}
use Rattle.pool_threads.proofs.Released.{AreBelow, HasLocked, Holds, KeepsLocks, all_released, begin_refused, holds_then, keeps_committed, keeps_given_up, keeps_same, lock_refused, none_held, none_locked, one_locked, unlocked_once}
use Rattle.word_lock.specs.declared.rule.Turn.{Turn}
use Rattle.word_lock.specs.Seats.{HasMetNone, seen, turns}
use Rattle.word_lock.specs.Turns.{turn}

-- a turn between these views leaves them
abbrev pub Releases : SeenPool → SeenPool → Type 0
Releases v w = ∥ AreReleased (viewed_state v) (viewed_state w) ∥₁

module _ (keeps : Type 0) (owner : Owner) where
  has_locked : (rs : List ObjectRange) (ids : List LockId) (v w : SeenPool) → Locks keeps owner rs ids v w → ∥ HasLocked owner.0 ids (viewed_state v) (viewed_state w) ∥₁
  has_locked [] [] v w same = ∣ subst (λ (u : SeenPool). HasLocked owner.0 [] (viewed_state v) (viewed_state u)) (sym same) (none_locked owner.0 (viewed_state v)) ∣₁
  has_locked (r ∷ rs) (id ∷ ids) v w (next, one, rest) =
      ∥∥₁_elim one.explained ∥∥₁_prop (λ x.
      ∥∥₁_elim one.step ∥∥₁_prop (λ lock.
      ∥∥₁_map {B = HasLocked owner.0 (id ∷ ids) (viewed_state v) (viewed_state w)} (has_locked rs ids next w rest)
      (λ more. one_locked [] owner r.object r.range id ids (viewed_state v) (viewed_state next) (viewed_state w) x lock more)))
  has_locked [] (id ∷ ids) v w h = absurd h
  has_locked (r ∷ rs) [] v w h = absurd h

  -- the locks are those from before, and so are the transactions
  abbrev HasUnlocked : List Grant → SeenPool → SeenPool → Type 0
  HasUnlocked base v w = ((viewed_state w).shown.locks ≡ base) × ((viewed_state w).shown.transactions ≡ (viewed_state v).shown.transactions)

  has_unlocked : (n : ℕ) (base gs : List Grant) (ids : List LockId) (v w : SeenPool) → Holds owner.0 n base gs ids (viewed_state v) → Unlocks keeps owner ids v w → ∥ HasUnlocked base v w ∥₁
  has_unlocked n base [] [] v w h same =
      ∣ subst (λ (u : SeenPool). HasUnlocked base v u) (sym same) (h.held ∙ append-nil base, refl) ∣₁
  has_unlocked n base (g ∷ gs) (id ∷ ids) v w h (next, answer, one, rest) =
      ∥∥₁_elim one.step ∥∥₁_prop (λ unlock.
      let u = unlocked_once [] owner n base g gs id ids answer (viewed_state v) (viewed_state next) h unlock in
      ∥∥₁_map {B = HasUnlocked base v w} (has_unlocked (n + 1) base gs ids next w u.1 rest) (λ more. (more.0, more.1 ∙ u.0)))
  has_unlocked n base (g ∷ gs) [] v w h rest = absurd h.next
  has_unlocked n base [] (id ∷ ids) v w h rest = absurd h.next

  -- what was locked is unlocked after what keeps it
  released_under : (rs : List ObjectRange) (ids : List LockId) (v locked ended w : SeenPool) → Locks keeps owner rs ids v locked → ∥ KeepsLocks (viewed_state locked) (viewed_state ended) ∥₁ → Unlocks keeps owner ids ended w → Releases v w
  released_under rs ids v locked ended w locks keeps_them unlocks =
      ∥∥₁_elim (has_locked rs ids v locked locks) ∥∥₁_prop (λ has.
      ∥∥₁_elim keeps_them ∥∥₁_prop (λ kept. by has kept has.ran))
    where
      by : (has : HasLocked owner.0 ids (viewed_state v) (viewed_state locked)) → KeepsLocks (viewed_state locked) (viewed_state ended) → (ids ≡ []) ⊎ (((viewed_state v).shown.suspended ≡ false) × AreBelow (viewed_state v).shown.next_lock (viewed_state v).shown.locks) → Releases v w
      by has kept (inl none) =
          let same : w ≡ ended = subst (λ (ns : List LockId). Unlocks keeps owner ns ended w) none unlocks in
          ∣ subst (λ (u : SeenPool). AreReleased (viewed_state v) (viewed_state u)) (sym same) (none_held owner.0 ids (viewed_state v) (viewed_state locked) (viewed_state ended) has kept none) ∣₁
      by has kept (inr ran) =
          ∥∥₁_map {B = AreReleased (viewed_state v) (viewed_state w)}
          (has_unlocked _ (viewed_state v).shown.locks has.grants ids ended w (holds_then owner.0 ids (viewed_state v) (viewed_state locked) (viewed_state ended) has kept ran) unlocks)
          (all_released owner.0 ids (viewed_state v) (viewed_state locked) (viewed_state ended) has kept (viewed_state w))

  module _ (ranges : List ObjectRange) (plan : List Shape) (ops : List Op) where
    -- a transaction that ended, in whichever way, keeps the locks under which it was begun
    both_keep : (ids : List LockId) (result : Result Receipt PoolError) (v w : SeenPool) (b : BeginsAndEnds keeps owner ranges plan ops ids result v w) → ∥ KeepsLocks (viewed_state b.begins.0) (viewed_state w) ∥₁
    both_keep ids result v w b =
        ∥∥₁_elim b.begins.2.1.explained ∥∥₁_prop (λ x.
        ∥∥₁_elim b.begins.2.1.step ∥∥₁_prop (λ begins. by x begins result b.ends))
      where
        by : AreTablesExplained (viewed_state b.begins.0).shown (viewed_state b.begins.0).past → Step ⊥ [] (step.Begin owner plan) (reply.Began b.tx b.begins.2.0) (viewed_state b.begins.0) (viewed_state b.begun)
            → (r : Result Receipt PoolError) → Ends keeps b.tx ops r b.begun w → ∥ KeepsLocks (viewed_state b.begins.0) (viewed_state w) ∥₁
        by x begins (Ok r) one =
            ∥∥₁_map {B = KeepsLocks (viewed_state b.begins.0) (viewed_state w)} one.step
            (λ commits. keeps_committed [] owner plan b.tx b.begins.2.0 (viewed_state b.begins.0) (viewed_state b.begun) x begins ops r (viewed_state w) commits)
        by x begins (Err e) (failed, refused, (answer, aborted)) =
            ∥∥₁_elim refused.step ∥∥₁_prop (λ commits.
            ∥∥₁_map {B = KeepsLocks (viewed_state b.begins.0) (viewed_state w)} aborted.step
            (λ aborts. keeps_given_up [] owner plan b.tx b.begins.2.0 (viewed_state b.begins.0) (viewed_state b.begun) x begins ops e answer (viewed_state failed) (viewed_state w) commits aborts))

    both_release : (ids : List LockId) (result : Result Receipt PoolError) (v ended w : SeenPool) → BeginsAndEnds keeps owner ranges plan ops ids result v ended → Unlocks keeps owner ids ended w → Releases v w
    both_release ids result v ended w b unlocks = released_under ranges ids v b.begins.0 ended w b.begins.1 (both_keep ids result v ended b) unlocks

    all_release : (ids : List LockId) (result : Result Receipt PoolError) (v ended w : SeenPool) → LocksAndEnds keeps owner ranges plan ops ids result v ended → Unlocks keeps owner ids ended w → Releases v w
    all_release ids (Ok r) v ended w b unlocks = both_release ids (Ok r) v ended w b unlocks
    all_release ids (Err e) v ended w (inr b) unlocks = both_release ids (Err e) v ended w b unlocks
    all_release ids (Err e) v ended w (inl (inl s)) unlocks =
        released_under s.locked ids v s.middle ended w s.locks
        (∥∥₁_map {B = KeepsLocks (viewed_state s.middle) (viewed_state ended)} s.refused.step
        (λ one. keeps_same (viewed_state s.middle) (viewed_state ended) (lock_refused [] owner s.range.object s.range.range Writer e (viewed_state s.middle) (viewed_state ended) one))) unlocks
    all_release ids (Err e) v ended w (inl (inr (locked, locks, refused))) unlocks =
        released_under ranges ids v locked ended w locks
        (∥∥₁_map {B = KeepsLocks (viewed_state locked) (viewed_state ended)} refused.step
        (λ one. keeps_same (viewed_state locked) (viewed_state ended) (begin_refused [] owner plan e (viewed_state locked) (viewed_state ended) one))) unlocks

    transaction_releases : (result : Result Receipt PoolError) (v w : SeenPool) → MakesTransaction keeps owner ranges plan ops result v w → Releases v w
    transaction_releases result v w m = all_release m.ids result v m.ended w m.ends m.unlocks

    module _ (moment : ℕ) where
      earlier_releases : (t : Turn SeenPool) → IsEarlierTurn keeps moment owner ranges plan ops t → Releases t.took t.left
      earlier_releases t (inl (e, again, m)) = transaction_releases (Err e) t.took t.left m
      earlier_releases t (inr (r, passed, (group, is, made))) = payment_releases keeps group moment r t.took t.left made

      last_releases : (result : Result Receipt PoolError) (t : Turn SeenPool) → IsLastTurn keeps moment owner ranges plan ops result t → Releases t.took t.left
      last_releases (Ok r) t m = transaction_releases (Ok r) t.took t.left m
      last_releases (Err e) t (inl (m, for_good)) = transaction_releases (Err e) t.took t.left m
      last_releases (Err e) t (inr (group, is, made)) = payment_releases keeps group moment (Some (reply.Refused e)) t.took t.left made

-- such turns with nothing between them leave all locks and transactions
line_releases : (ts : List (Turn SeenPool)) (v w : SeenPool) → ReleasesInEach ts → AreUnbroken v ts w → Releases v w
line_releases [] v w each line = ∣ released_same (viewed_state v) (viewed_state w) (ap (λ (u : SeenPool). viewed_state u) line) ∣₁
line_releases (t ∷ ts) v w each line =
    ∥∥₁_elim (All-head (λ (u : Turn SeenPool). Releases u.took u.left) t ts each) ∥∥₁_prop (λ first.
    ∥∥₁_map {B = AreReleased (viewed_state v) (viewed_state w)} (line_releases ts t.left w (All-tail (λ (u : Turn SeenPool). Releases u.took u.left) t ts each) line.1)
    (λ later. released_on (viewed_state v) (viewed_state t.left) (viewed_state w) (subst (λ (u : SeenPool). AreReleased (viewed_state u) (viewed_state t.left)) line.0 first) later))

module _ {Dev : Type 0} {G : Ghosts Dev} where
  pub nothing_left : (old new : Handle Dev G) → new ≡ old → LeavesNothing old new
  nothing_left old new same = subst (λ (h : Handle Dev G). LeavesNothing old h) (sym same) (record {
    had = [];
    turns = sym (append-nil (turns old.seat));
    each = All-nil (λ (u : Turn SeenPool). Releases u.took u.left);
    alone = λ only. ∣ record { locks = refl; transactions = refl } ∣₁;
  })

  -- nor is it by two calls, one after the other
  pub nothing_left_on : (old now new : Handle Dev G) → HasMetNone old.seat now.seat → LeavesNothing old now → LeavesNothing now new → LeavesNothing old new
  nothing_left_on old now new met first later = record {
    had = first.had ++ later.had;
    turns = later.turns ∙ ap (λ (ts : List (Turn SeenPool)). ts ++ later.had) first.turns ∙ append_assoc (turns old.seat) first.had later.had;
    each = All-append (λ (u : Turn SeenPool). Releases u.took u.left) first.had later.had first.each later.each;
    alone = λ only.
        ∥∥₁_elim (first.alone only) ∥∥₁_prop (λ before.
        ∥∥₁_map {B = AreReleased (state_seen old) (state_seen new)} (later.alone (met.0 ∙ only)) (λ after. released_on (state_seen old) (state_seen now) (state_seen new) before after));
  }

  module _ (owner : Owner) (ranges : List ObjectRange) (plan : List Shape) (ops : List Op) (result : Result Receipt PoolError) (old new : Handle Dev G) (u : TransactsAtLast owner ranges plan ops result old new) where
    before : ReleasesInEach u.made.had
    before = All-weaker _ (λ (t : Turn SeenPool). Releases t.took t.left) (earlier_releases (IsTrue G.keeps_model) owner ranges plan ops (moment_of old)) u.made.had u.made.each

    last : Releases u.made.took (seen new.seat)
    last = last_releases (IsTrue G.keeps_model) owner ranges plan ops (moment_of old) result (turn u.made.took (seen new.seat)) u.made.made

    pub leaves_nothing : LeavesNothing old new
    leaves_nothing = record {
      had = u.made.had ++ turn u.made.took (seen new.seat) ∷ [];
      turns = u.made.turn ∙ append_assoc (turns old.seat) u.made.had (turn u.made.took (seen new.seat) ∷ []);
      each = All-push (λ (t : Turn SeenPool). Releases t.took t.left) u.made.had (turn u.made.took (seen new.seat)) before last;
      alone = λ only.
          ∥∥₁_elim (line_releases u.made.had (seen old.seat) u.made.took before (u.made.alone only)) ∥∥₁_prop (λ first.
          ∥∥₁_map {B = AreReleased (state_seen old) (state_seen new)} last (λ later. released_on (state_seen old) (viewed_state u.made.took) (state_seen new) first later));
    }
