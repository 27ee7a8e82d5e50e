-- What each stop of an import says of the image, and leaves of the device.
use Rattle.std.proofs.Common.{◌≡◌, ◌⊎◌, inl, inr, ℕ, Bool, true, List, Ok, IsTrue, refl, sym, ◌∙◌, subst}
use Rattle.base.specs.declared.error.PoolError.{PoolError}
use Rattle.base.specs.declared.error.PoolError.TheVariants.{BadGeometry, BadRange, Damaged, Flush, NoMemory, NoPool, NoSpace, Read, TooMany, Write}
use Rattle.base.specs.disk.Calls.{Flushes}
use Rattle.base.specs.disk.Disk.{Disk, bytes_of}
use Rattle.base.specs.formats.Geometry.{IsGeometry}
use Rattle.base.specs.formats.Uberblocks.{Uberblock}
use Rattle.device_model.specs.declared.device.SectorDevice.{Ghosts}
use Rattle.group_plans.specs.GroupPlans.{IsHeldRefusal, IsPlanRefusal}
use Rattle.log_replay.specs.Replays.{IsReplayCause}
use Rattle.import_replay.specs.ImportRefusals.{HasLastNumbers, LacksImportRoom, IsImportRefusal, IsReason, IsMountRefusal, IsReadingRefusal, IsSyncRefusal, IsWalkRefusal}
use Rattle.import_replay.specs.ImportStops.{IsImportStopped}
use Rattle.import_replay.specs.NextPools.{IsNextRefused, LacksBlocks, LacksTreeBlocks}
use Rattle.import_replay.specs.Refused.{IsImportRefused, IsMountRefused}
use Rattle.import_replay.specs.declared.next_pool.ReplayedPool.{ReplayedPool}
use Rattle.import_replay.proofs.OwnRefusals.{finds_own}
use Rattle.import_replay.proofs.ReadPools.{same_flushed}
use Rattle.import_replay.proofs.Reasons.{no_reason, not_both, reason-many, reason-open, reason-plan}

not_full : (e : PoolError) → IsSyncRefusal e → e ≡ NoSpace → ⊥
not_full e (inl is) full = let no : Write ≡ NoSpace = sym is ∙ full in cc
not_full e (inr is) full = let no : Flush ≡ NoSpace = sym is ∙ full in cc

-- a pool is not planned for want of blocks
pub next_full : (holds : Type 0) (size : ℕ) (u : Uberblock) (pool : ReplayedPool) (e : PoolError) → e ≡ NoSpace → LacksBlocks size u pool → (holds → LacksTreeBlocks size u pool)
    → IsNextRefused holds size u pool e
next_full holds size u pool e is full lacks = record { kind = inl (inl is); sound = λ held. inl (inl is); full = λ _. full; lacks = λ held _. lacks held }

-- an import that had begun
module _ (keeps : Bool) (moment : ℕ) (old mid new : Disk) (e : PoolError) where
  -- the first flush was refused
  pub flush_refused : e ≡ Flush → (IsTrue keeps → new ≡ old) → IsMountRefused keeps moment old new e
  flush_refused is same = record {
    kind = subst IsMountRefusal (sym is) tt;
    reason = λ keep. (reason-open (bytes_of old.now) e (inr (inr (inr is))) (λ full. let no : Flush ≡ NoSpace = sym is ∙ full in cc));
    unchanged = λ keep reading. absurd (not_both e reading (inr is));
    stopped = λ keep sync. inl (is, same keep);
  }

  of_walk : (x : PoolError) → IsWalkRefusal x → IsMountRefusal x × IsReadingRefusal x
  of_walk NoMemory walk = (tt, tt)
  of_walk Read walk = (tt, tt)
  of_walk NoPool walk = (tt, tt)
  of_walk (Damaged kind address) walk = (tt, tt)
  of_walk _ walk = absurd walk

  of_plan : (x : PoolError) → IsPlanRefusal x → IsMountRefusal x × IsReadingRefusal x
  of_plan x (inl (inl is)) = (subst IsMountRefusal (sym is) tt, subst IsReadingRefusal (sym is) tt)
  of_plan x (inl (inr is)) = (subst IsMountRefusal (sym is) tt, subst IsReadingRefusal (sym is) tt)
  of_plan x (inr (inl is)) = (subst IsMountRefusal (sym is) tt, subst IsReadingRefusal (sym is) tt)
  of_plan x (inr (inr (kind, address, is))) = (subst IsMountRefusal (sym is) tt, subst IsReadingRefusal (sym is) tt)

  module _ (flushes : IsTrue keeps → Flushes old (Ok tt) mid) where
    -- after it nothing was written
    unwritten : IsMountRefusal e → IsReadingRefusal e → (IsTrue keeps → IsReason (bytes_of old.now) e) → (IsTrue keeps → new ≡ mid) → IsMountRefused keeps moment old new e
    unwritten kind reading reason same = record {
      kind = kind;
      reason = reason;
      unchanged = λ keep again. same keep ∙ flushes keep;
      stopped = λ keep sync. absurd (not_both e reading sync);
    }

    -- the labels or the tree were refused
    pub reading_refused : IsWalkRefusal e → (IsTrue keeps → IsReason (bytes_of mid.now) e) → (IsTrue keeps → new ≡ mid) → IsMountRefused keeps moment old new e
    reading_refused walk reason same =
        let kinds = of_walk e walk in
        unwritten kinds.0 kinds.1 (λ keep. (subst (λ (image : List ℕ). IsReason image e) (same_flushed old mid (flushes keep)) (reason keep))) same

    -- there was no memory for the records, or one can't take place
    pub replay_refused : IsReplayCause e → (IsTrue keeps → IsReason (bytes_of old.now) e) → (IsTrue keeps → new ≡ mid) → IsMountRefused keeps moment old new e
    replay_refused (inl is) reason same = unwritten (subst IsMountRefusal (sym is) tt) (subst IsReadingRefusal (sym is) tt) reason same
    replay_refused (inr (address, is)) reason same = unwritten (subst IsMountRefusal (sym is) tt) (subst IsReadingRefusal (sym is) tt) reason same

    -- the numbers would pass the last one
    pub numbers_refused : e ≡ TooMany → (IsTrue keeps → HasLastNumbers (bytes_of old.now)) → (IsTrue keeps → new ≡ mid) → IsMountRefused keeps moment old new e
    numbers_refused is last same =
        unwritten (subst IsMountRefusal (sym is) tt) (subst IsReadingRefusal (sym is) tt)
        (λ keep. (subst (λ (x : PoolError). IsReason (bytes_of old.now) x) (sym is) (reason-many (bytes_of old.now) (last keep)))) same

    -- there was no memory for the pool to be synced, no room, or a block could not be read
    pub next_refused : IsPlanRefusal e → (IsTrue keeps → IsHeldRefusal e) → (IsTrue keeps → e ≡ NoSpace → LacksImportRoom (bytes_of old.now)) → (IsTrue keeps → new ≡ mid) → IsMountRefused keeps moment old new e
    next_refused refused sound full same =
        let kinds = of_plan e refused in
        unwritten kinds.0 kinds.1 (λ keep. reason-plan (bytes_of old.now) e (sound keep) (full keep)) same

  of_sync : (x : PoolError) → IsSyncRefusal x → IsMountRefusal x
  of_sync x (inl is) = subst IsMountRefusal (sym is) tt
  of_sync x (inr is) = subst IsMountRefusal (sym is) tt

  -- a call of the sync was refused
  pub open_refused : IsSyncRefusal e → (IsTrue keeps → IsImportStopped old new moment e) → IsMountRefused keeps moment old new e
  open_refused sync stops = record {
    kind = of_sync e sync;
    reason = λ keep. (reason-open (bytes_of old.now) e (inr (inr sync)) (λ full. absurd (not_full e sync full)));
    unchanged = λ keep reading. absurd (not_both e reading sync);
    stopped = λ keep again. stops keep;
  }

-- an import, on any device
module _ {Dev : Type 0} (D : Ghosts Dev) where
  -- the kinds of an import that had begun are none by size or limits
  of_mount : (size : ℕ) (allowed : Bool) (e : PoolError) → IsGeometry size × (allowed ≡ true) → IsMountRefusal e → IsImportRefusal size allowed e
  of_mount size allowed BadGeometry can kind = absurd kind
  of_mount size allowed BadRange can kind = absurd kind
  of_mount size allowed _ can kind = (can, kind)

  begun : (e : PoolError) → IsMountRefusal e → (e ≡ BadGeometry) ⊎ (e ≡ BadRange) → ⊥
  begun e kind (inl is) = subst IsMountRefusal is kind
  begun e kind (inr is) = subst IsMountRefusal is kind

  pub mount_refused : (allowed : Bool) (moment : ℕ) (old new : Dev) (e : PoolError) → IsGeometry (D.size old) × (allowed ≡ true) → IsMountRefused D.keeps_model moment (D.disk old) (D.disk new) e → IsImportRefused D allowed moment old new e
  mount_refused allowed moment old new e can refused =
      record {
        kind = of_mount (D.size old) allowed e can refused.kind;
        reason = refused.reason;
        found = λ keep. finds_own (D.disk old) e (refused.reason keep);
        untouched = λ bad. absurd (begun e refused.kind bad);
        unchanged = refused.unchanged;
        stopped = refused.stopped;
      }

  -- by size or limits
  not_begun : (e : PoolError) → (e ≡ BadGeometry) ⊎ (e ≡ BadRange) → (IsReadingRefusal e → ⊥) × (IsSyncRefusal e → ⊥)
  not_begun e (inl is) = (λ reading. subst IsReadingRefusal is reading, λ sync. elim sync [ inl of_write ↦ let no : BadGeometry ≡ Write = sym is ∙ of_write in cc | inr of_flush ↦ let no : BadGeometry ≡ Flush = sym is ∙ of_flush in cc ])
  not_begun e (inr is) = (λ reading. subst IsReadingRefusal is reading, λ sync. elim sync [ inl of_write ↦ let no : BadRange ≡ Write = sym is ∙ of_write in cc | inr of_flush ↦ let no : BadRange ≡ Flush = sym is ∙ of_flush in cc ])

  pub bounds_refused : (allowed : Bool) (moment : ℕ) (old : Dev) (e : PoolError) → (e ≡ BadGeometry) ⊎ (e ≡ BadRange) → IsImportRefusal (D.size old) allowed e → IsImportRefused D allowed moment old old e
  bounds_refused allowed moment old e bad kind = record {
    kind = kind;
    reason = λ keep. (no_reason (bytes_of (D.disk old).now) e bad);
    found = λ keep. finds_own (D.disk old) e ((no_reason (bytes_of (D.disk old).now) e bad));
    untouched = λ again. refl;
    unchanged = λ keep reading. absurd ((not_begun e bad).0 reading);
    stopped = λ keep sync. absurd ((not_begun e bad).1 sync);
  }
