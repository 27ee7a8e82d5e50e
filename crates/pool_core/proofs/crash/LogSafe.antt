-- A write and a flush of the log keep the crash rule. At each of their moments the disk is the pool's own, and safe
-- with what was acknowledged before.
use Rattle.std.proofs.Common.{◌≡◌, ◌∙◌, ◌⊎◌, inl, inr, ℕ, ◌+◌, ◌≤◌, Bool, true, false, List, [], ◌∷◌, ◌++◌, length, Option, Some, None, Result, Ok, Err, refl, ap, sym, subst, arith}
use Rattle.std.specs.Prelude.{get_or}
use Rattle.std.proofs.lemmas.List.{length_push}
use Rattle.base.specs.declared.error.PoolError.{PoolError}
use Rattle.base.specs.declared.error.PoolError.TheVariants as error
use Rattle.base.specs.declared.step.Step.TheVariants as step
use Rattle.base.specs.declared.step.Reply.TheVariants as reply
use Rattle.base.specs.disk.Calls.{Flushes, Writes}
use Rattle.base.specs.disk.Disk.{Disk, EachMoment, Moment, Write, bytes_of, certain_with, disk_size, moments, settled}
use Rattle.base.specs.history.History.{HasAcknowledged}
use Rattle.base.specs.history.Past.{Past}
use Rattle.base.specs.steps.Tables.{AreTablesExplained}
use Rattle.base.specs.steps.Refusals as refusal
use Rattle.base.specs.steps.Shown.{Shown}
use Rattle.base.specs.steps.Runs.{reply_of}
use Rattle.base.specs.steps.Steps.{Answers, LogFlush, LogWrite, State, ordinals_awaiting, state_after_log_flush, suspended_state}
use Rattle.base.proofs.common.KeptLists.{All-at, All-each, at_front}
use Rattle.base.proofs.crash.LogHeaders.{kept_block}
use Rattle.base.proofs.disk.Moments.{goes_on, moments_grow, starts}
use Rattle.base.proofs.history.CommitOrder.{no_refusal, ok-none}
use Rattle.base.proofs.steps.KeptTables.{steps_keep_tables}
use Rattle.base.proofs.stored.StoredSteps.{kept-state}
use Rattle.import_replay.proofs.ReadPools.{same_flushed}
use Rattle.pool_tables.specs.LogBlocks.{PutsLogBlock}
use Rattle.pool_core.specs.KeptSafe.{IsKeptSafe, LeavesOwn, OnDisk}
use Rattle.pool_core.specs.LogSafe.{FlushesLogOnDisk, IsKeptSafely, LogFlushesAreSafe, LogWritesAreSafe, WritesLogOnDisk}
use Rattle.pool_core.proofs.crash.LogFlushes as flushes
use Rattle.pool_core.proofs.crash.LogWrites as writes
use Rattle.pool_core.proofs.crash.OwnMoments.{were_left}
use Rattle.pool_core.proofs.crash.SafeMoments.{IsSafeMoment, kept_own, kept_safe, stood_own, stood_safe, were_safe}
use Rattle.pool_core.proofs.crash.SafeSteps.{disk_stays}
use Rattle.pool_core.proofs.crash.ViewsKept.{suspended_stays}

-- a log write and a log flush keep the tables exact
write_explained : (answer : Result ℕ PoolError) (old new : State) → LogWrite answer old new → AreTablesExplained old.shown old.past → AreTablesExplained new.shown new.past
write_explained answer old new h = steps_keep_tables ⊥ [] step.LogWrite (reply_of (λ (count : ℕ). reply.Logged count) answer) old new (answer, refl, h)

flush_explained : (answer : Result (Unit {0}) PoolError) (old new : State) → LogFlush answer old new → AreTablesExplained old.shown old.past → AreTablesExplained new.shown new.past
flush_explained answer old new h = steps_keep_tables ⊥ [] step.LogFlush (reply_of (λ (u : Unit {0}). reply.Flushed) answer) old new (answer, refl, h)

-- each moment from the one disk to the other is one of these two
abbrev Joins : Disk → Disk → Type 1
Joins before after = (P : Moment → Type 0) → P before.now → P after.now → EachMoment P before after

write_joins : (before after : Disk) (place : ℕ) (content : List ℕ) (r : Result (Unit {0}) PoolError) → Writes before place content r after → Joins before after
write_joins before after place content (Ok u) made P first last =
    subst (λ (d : Disk). EachMoment P before d) (sym made) (goes_on P before before _ (starts P before first) (subst (λ (d : Disk). P d.now) made last))
write_joins before after place content (Err e) (inl made) P first last =
    subst (λ (d : Disk). EachMoment P before d) (sym made) (goes_on P before before _ (starts P before first) (subst (λ (d : Disk). P d.now) made last))
write_joins before after place content (Err e) (inr same) P first last = subst (λ (d : Disk). EachMoment P before d) (sym same) (starts P before first)

flush_joins : (before after : Disk) → Flushes before (Ok tt) after → Joins before after
flush_joins before after flushed P first last = subst (λ (d : Disk). EachMoment P before d) (sym flushed) (go before.now.unflushed (subst (λ (d : Disk). P d.now) flushed last))
  where
    go : (ws : List Write) → P (certain_with (bytes_of before.now) before ws).now → EachMoment P before (certain_with (bytes_of before.now) before ws)
    go [] here = starts P before first
    go (w ∷ ws) here = goes_on P before before (settled (bytes_of before.now) before.now) (starts P before first) here

-- A moment that is safe with what is acknowledged is safe with less of it, and likewise its own.
module _ (size guid : ℕ) (p q : Past) (same : record q { acknowledged = p.acknowledged } ≡ p) (fewer : (marks : List Bool) → HasAcknowledged marks q.acknowledged → HasAcknowledged marks p.acknowledged) (m : Moment) where
  safe_before : IsSafeMoment size q m → IsSafeMoment size p m
  safe_before h = subst (λ (r : Past). IsSafeMoment size r m) same (record {
    bytes = h.bytes;
    each = λ image left fair.
        let c = h.each image left fair in
        record { contents = c.contents; left = record { marks = c.left.marks; cut = c.left.cut; acknowledged = fewer c.left.marks c.left.acknowledged; replayed = c.left.replayed; front = c.left.front }; mounts = c.mounts };
  })

  own_before : LeavesOwn size q guid m → LeavesOwn size p guid m
  own_before h = subst (λ (r : Past). LeavesOwn size r guid m) same (record {
    bytes = h.bytes;
    each = λ image left fair.
        let c = h.each image left fair in
        (c.0, record { marks = c.1.marks; cut = c.1.cut; acknowledged = fewer c.1.marks c.1.acknowledged; replayed = c.1.replayed; front = c.1.front }, c.2);
  })

-- Where the crash rule stands before and after, and no other moment comes between, each is safe.
module _ (x y : OnDisk) (safe : IsKeptSafe x) (then : IsKeptSafe y) (joins : Joins x.disk y.disk) (size : disk_size y.disk ≡ disk_size x.disk) (guid : y.held.state.shown.guid ≡ x.held.state.shown.guid)
    (same : record y.held.state.past { acknowledged = x.held.state.past.acknowledged } ≡ x.held.state.past)
    (fewer : (marks : List Bool) → HasAcknowledged marks y.held.state.past.acknowledged → HasAcknowledged marks x.held.state.past.acknowledged) where
  abbrev p : Past
  p = x.held.state.past

  abbrev q : Past
  q = y.held.state.past

  abbrev of_pool : ℕ
  of_pool = x.held.state.shown.guid

  joined_safely : IsKeptSafely x y
  joined_safely = record {
    kept = then;
    were = were_safe x.disk y.disk p q p same
        (joins (IsSafeMoment (disk_size x.disk) p) (kept_safe x safe) (safe_before (disk_size x.disk) of_pool p q same fewer y.disk.now (subst (λ (n : ℕ). IsSafeMoment n q y.disk.now) size (kept_safe y then))));
    own = were_left x.disk y.disk p q p of_pool y.held.state.shown.guid same guid
        (joins (LeavesOwn (disk_size x.disk) p of_pool) (kept_own x safe).left
        (own_before (disk_size x.disk) of_pool p q same fewer y.disk.now
        (subst (λ (n : ℕ). LeavesOwn n q of_pool y.disk.now) size (subst (λ (g : ℕ). LeavesOwn (disk_size y.disk) q g y.disk.now) guid (kept_own y then).left))));
  }

-- a step that leaves the disk, and all that was acknowledged
stood_safely : (x y : OnDisk) → y.disk ≡ x.disk → y.held.state.past ≡ x.held.state.past → IsKeptSafe y → IsKeptSafely x y
stood_safely x y disk past then = record {
  kept = then;
  were = subst (λ (d : Disk). EachMoment (IsSafeMoment (disk_size d) (record y.held.state.past { acknowledged = x.held.state.past.acknowledged })) d y.disk) disk
      (stood_safe y.disk x.held.state.past y.held.state.past (ap (λ (r : Past). r.acknowledged) past) (kept_safe y then));
  own = subst (λ (d : Disk). EachMoment (LeavesOwn (disk_size d) (record y.held.state.past { acknowledged = x.held.state.past.acknowledged }) y.held.state.shown.guid) d y.disk) disk
      (stood_own y x.held.state.past (ap (λ (r : Past). r.acknowledged) past) then);
}

-- A write of the log.
module _ (answer : Result ℕ PoolError) (x y : OnDisk) (safe : IsKeptSafe x) (h : WritesLogOnDisk answer x y) where
  abbrev s : Shown
  s = x.held.state.shown

  past : y.held.state.past ≡ x.held.state.past
  past = writes.same_past answer x.held.state y.held.state h.step

  -- where the block was handed to the device
  module _ (r : Result (Unit {0}) PoolError) (done : Bool) (told : ((r ≡ Ok tt) × (done ≡ true)) ⊎ ((e : PoolError) × (r ≡ Err e) × (done ≡ false))) (puts : PutsLogBlock r done s y.held.state.shown x.disk y.disk) where
    longer : length y.held.state.shown.log.kept ≡ length s.log.kept + 1
    longer = ap (λ (t : Shown). length t.log.kept) puts.shown ∙ length_push s.log.kept (kept_block puts.taken s.log)

    running : s.suspended ≡ false
    running = no_refusal (refusal.log_write_tests s) (writes.passed answer x.held.state y.held.state h.step longer) 0 _ refl

    abbrev t : Shown
    t = writes.t x safe r done told y.held.state.shown y.disk puts running

    abbrev z : OnDisk
    z = record {
      held = record { state = record { shown = t; past = x.held.state.past }; now = bytes_of y.disk.now; pointers = x.held.pointers; running = x.held.running };
      disk = y.disk;
      run = x.run;
    }

    same : y ≡ z
    same = λ k. record {
      held = record { state = record { shown = puts.shown k; past = past k }; now = h.same.same_bytes k; pointers = h.same.pointers k; running = h.same.running k };
      disk = y.disk;
      run = h.same.run k;
    }

    explained : AreTablesExplained t x.held.state.past
    explained = subst (λ (u : State). AreTablesExplained u.shown u.past) (λ k. record { shown = puts.shown k; past = past k }) (write_explained (answer) x.held.state y.held.state h.step safe.held.explained)

    joins : Joins x.disk y.disk
    joins = write_joins x.disk y.disk s.log.next.address puts.block.content r puts.writes

    size : disk_size y.disk ≡ disk_size x.disk
    size = writes.write_size x.disk y.disk s.log.next.address puts.block.content r (writes.fits x safe r done told y.held.state.shown y.disk puts running) puts.writes

    later : moments x.disk ≤ moments y.disk
    later = moments_grow (λ m. Unit {0}) x.disk y.disk (joins (λ m. Unit {0}) tt tt)

    safe_then : IsKeptSafe z
    safe_then = record {
      held = record { explained = explained; kept = writes.kept_then x safe r done told y.held.state.shown y.disk puts running };
      same_bytes = refl;
      began = omega (arith, safe.began, later);
      kept = writes.disk_written x safe r done told y.held.state.shown y.disk puts running explained x.run safe.kept;
    }

    called : IsKeptSafely x y
    called = subst (IsKeptSafely x) (sym same) (joined_safely x z safe safe_then joins size refl refl (λ marks has. has))

  -- where it was refused before that
  not_called : y.held.state.shown ≡ s → y.disk ≡ x.disk → IsKeptSafely x y
  not_called shown disk = subst (IsKeptSafely x) (sym same) (stood_safely x x refl refl safe)
    where
      bytes : y.held.now ≡ x.held.now
      bytes = h.same.same_bytes ∙ ap (λ (d : Disk). bytes_of d.now) disk ∙ sym safe.same_bytes

      same : y ≡ x
      same = λ k. record {
        held = record { state = record { shown = shown k; past = past k }; now = bytes k; pointers = h.same.pointers k; running = h.same.running k };
        disk = disk k;
        run = h.same.run k;
      }

pub log_writes_safe : LogWritesAreSafe
log_writes_safe (Ok count) x y safe h = called (Ok count) x y safe h (Ok tt) true (inl (refl, refl)) h.wrote
log_writes_safe (Err e) x y safe h = elim h.wrote as (λ _. IsKeptSafely x y) [
  | inl none ↦ not_called (Err e) x y safe h none.0 none.1
  | inr puts ↦ called (Err e) x y safe h (Err e) false (inr (e, refl, refl)) puts
]

-- A flush of the log.
module _ (x y : OnDisk) (safe : IsKeptSafe x) where
  abbrev before : State
  before = x.held.state

  fewer : (marks : List Bool) → HasAcknowledged marks (before.past.acknowledged ++ ordinals_awaiting before.shown.log) → HasAcknowledged marks before.past.acknowledged
  fewer marks has = All-each (λ (k : ℕ). get_or marks k false ≡ true) before.past.acknowledged (λ i k at.
      All-at (λ (n : ℕ). get_or marks n false ≡ true) (before.past.acknowledged ++ ordinals_awaiting before.shown.log) i k has (at_front before.past.acknowledged (ordinals_awaiting before.shown.log) i k at))

  module _ (h : FlushesLogOnDisk (Ok tt) x y) where
    done : (refusal.log_flush_refusal before.shown ≡ None) × (y.held.state ≡ state_after_log_flush before)
    done = ok-none (refusal.log_flush_refusal before.shown) tt before y.held.state (λ _. y.held.state ≡ state_after_log_flush before) (λ e. (e ≡ error.Flush) × (y.held.state ≡ suspended_state before)) h.step

    is_running : before.shown.suspended ≡ false
    is_running = no_refusal (refusal.log_flush_tests before.shown) done.0 0 _ refl

    abbrev u : State
    u = state_after_log_flush before

    abbrev w : OnDisk
    w = record { held = record { state = u; now = bytes_of y.disk.now; pointers = x.held.pointers; running = x.held.running }; disk = y.disk; run = x.run }

    to_flushed : y ≡ w
    to_flushed = λ k. record { held = record { state = done.1 k; now = h.same.same_bytes k; pointers = h.same.pointers k; running = h.same.running k }; disk = y.disk; run = h.same.run k }

    flush_joined : Joins x.disk y.disk
    flush_joined = flush_joins x.disk y.disk h.flushed

    flush_size : disk_size y.disk ≡ disk_size x.disk
    flush_size = ap (λ (l : List ℕ). length l) (same_flushed x.disk y.disk h.flushed)

    flush_later : moments x.disk ≤ moments y.disk
    flush_later = moments_grow (λ m. Unit {0}) x.disk y.disk (flush_joined (λ m. Unit {0}) tt tt)

    safe_flushed : IsKeptSafe w
    safe_flushed = record {
      held = record {
        explained = subst (λ (v : State). AreTablesExplained v.shown v.past) done.1 (flush_explained (Ok tt) before y.held.state h.step safe.held.explained);
        kept = flushes.kept_then x safe y.disk h.flushed is_running;
      };
      same_bytes = refl;
      began = omega (arith, safe.began, flush_later);
      kept = flushes.disk_flushed x safe y.disk h.flushed is_running x.run safe.kept;
    }

    answered : IsKeptSafely x y
    answered = subst (IsKeptSafely x) (sym to_flushed) (joined_safely x w safe safe_flushed flush_joined flush_size refl refl fewer)

  -- refused, it leaves the disk, and the pool as it was or suspended
  abbrev pool_of : State → OnDisk
  pool_of u = record { held = record { state = u; now = x.held.now; pointers = x.held.pointers; running = x.held.running }; disk = x.disk; run = x.run }

  abbrev stopped : State
  stopped = suspended_state before

  refused : (e : PoolError) → FlushesLogOnDisk (Err e) x y → IsKeptSafely x y
  refused e h = go (refusal.log_flush_refusal before.shown) h.step
    where
      bytes : y.held.now ≡ x.held.now
      bytes = h.same.same_bytes ∙ ap (λ (d : Disk). bytes_of d.now) h.flushed ∙ sym safe.same_bytes

      with_state : (u : State) → y.held.state ≡ u → y ≡ pool_of u
      with_state u same = λ k. record { held = record { state = same k; now = bytes k; pointers = h.same.pointers k; running = h.same.running k }; disk = h.flushed k; run = h.same.run k }

      go : (o : Option PoolError) → Answers {A = Unit {0}} o (Err e) before y.held.state (λ _. y.held.state ≡ state_after_log_flush before) (λ f. (f ≡ error.Flush) × (y.held.state ≡ suspended_state before)) → IsKeptSafely x y
      go (Some f) d = subst (IsKeptSafely x) (sym (with_state before d.1)) (stood_safely x (pool_of before) refl refl safe)
      go None d = subst (IsKeptSafely x) (sym (with_state stopped d.1)) (stood_safely x (pool_of stopped) refl refl (record {
        held = record {
          explained = subst (λ (v : State). AreTablesExplained v.shown v.past) d.1 (flush_explained (Err e) before y.held.state h.step safe.held.explained);
          kept = kept-state x.held.now before.shown stopped.shown x.held.pointers before.past stopped.past x.held.running (λ group is. refl) safe.held.kept;
        };
        same_bytes = safe.same_bytes;
        began = safe.began;
        kept = disk_stays before.shown stopped.shown before.past stopped.past (suspended_stays before) x.run x.disk safe.kept;
      }))

pub log_flushes_safe : LogFlushesAreSafe
log_flushes_safe (Ok u) x y safe h = answered x y safe h
log_flushes_safe (Err e) x y safe h = refused x y safe e h
