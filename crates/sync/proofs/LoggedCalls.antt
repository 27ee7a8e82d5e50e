-- Each moment of a call of a sync is of one of its phases, with the logs of both views held: as before, or once a flush
-- was answered Ok with all their blocks fixed.
use Rattle.std.proofs.Common.{◌≡◌, ◌⊎◌, inl, inr, ℕ, ◌+◌, ◌≤◌, ◌&&◌, Bool, true, false, List, length, Option, Some, None, Result, Ok, Err, refl, sym, ◌∙◌, ap, subst, arith}
use Rattle.std.specs.Prelude.{IfSome, if◌then◌else◌, nat_lt}
use Rattle.std.proofs.lemmas.Bool.{le-ltb, lt-ltb}
use Rattle.base.specs.declared.error.PoolError.{PoolError}
use Rattle.base.specs.kept.LogRule.{IsLogHeld}
use Rattle.base.specs.kept.Own.{IsPhase}
use Rattle.base.specs.disk.Calls.{Flushes}
use Rattle.base.specs.disk.Disk.{Disk, EachMoment, Moment, bytes_of, settled}
use Rattle.base.specs.disk.SyncOrder.{DeviceCall}
use Rattle.base.specs.disk.SyncOrder.DeviceCall.{Block, Config, Uberblock, Flush}
use Rattle.base.proofs.disk.Moments.{both, each_flush, latest, starts, weaker}
use Rattle.sync.specs.declared.run.SyncRun.{SyncRun}
use Rattle.sync.specs.Calls.{IsNextCall, MakesCall, Target, TargetFits, target_of}
use Rattle.sync.specs.Phases.{HasPhaseOf, HoldsLogs, IsLoggedPhase, IsSyncPhase, LeadsViews, SyncViews, all_flushed, is_flush, views_after}
use Rattle.sync.specs.Runs.{SameSync}
use Rattle.sync.proofs.HeldLogs.{logs_settled, write_holds}
use Rattle.sync.proofs.KeptWrites.{done_after}
use Rattle.sync.proofs.LogFlushes.{phase_raised_of}
use Rattle.sync.proofs.PhaseSteps.{phase_now, sized_now}
use Rattle.sync.proofs.SlotSteps.{flushed_now}
use Rattle.sync.proofs.Targets.{InLabels, IsSound, WritesTarget}

-- the same sync holds the same logs
holds_on : (run new : SyncRun) (v : SyncViews) (m : Moment) → SameSync run new → HoldsLogs run v false m → HoldsLogs new v false m
holds_on run new v m same h = record {
  apart = rw same.blocks h.apart;
  old = subst (λ (n : ℕ). IsLogHeld n v.created v.flushed false m v.old) (sym same.geometry) h.old;
  new = subst (λ (n : ℕ). IsLogHeld n v.created v.new_flushed false m v.new) (sym same.geometry) h.new;
}

module _ (run new : SyncRun) (sound : IsSound run) (before after : Disk) (same : SameSync run new) (base : List ℕ) (v : SyncViews) (leads : LeadsViews base run v) (has : HasPhaseOf run v before.now)
    (phases : EachMoment (IsSyncPhase run v) before after) (now : HasPhaseOf new v after.now) (holds : HoldsLogs run v false before.now) where
  abbrev Outcome : SyncViews → Type 0
  Outcome w = EachMoment (λ m. IsLoggedPhase run v m ⊎ IsLoggedPhase run w m) before after × (HasPhaseOf new w after.now × HoldsLogs new w false after.now)

  -- the views that come after a call
  abbrev views_of : Option DeviceCall → Bool → SyncViews
  views_of o made = if is_flush o && made then all_flushed v else v

  -- as before
  held_on : EachMoment (HoldsLogs run v false) before after → Outcome v
  held_on each = (
    weaker (IsLoggedPhase run v) (λ m. IsLoggedPhase run v m ⊎ IsLoggedPhase run v m) before after (λ m h. inl h) (both (IsSyncPhase run v) (HoldsLogs run v false) before after phases each),
    (now, holds_on run new v after.now same (latest (HoldsLogs run v false) before after each)),
  )

  -- with all blocks fixed
  held_fixed : Flushes before (Ok tt) after → Outcome (all_flushed v)
  held_fixed flushes =
      let m : Moment = before.now in
      let all : SyncViews = all_flushed v in
      let ends : after.now ≡ settled (bytes_of m) m = flushed_now before after flushes in
      let fixed : HoldsLogs run all false after.now = subst (λ (n : Moment). HoldsLogs run all false n) (sym ends) (logs_settled run v m holds) in
      let raised : HasPhaseOf new all after.now = subst (λ (n : Moment). HasPhaseOf new all n) (sym ends)
      (phase_raised_of v new (settled (bytes_of m) m) refl (holds.old.stand refl) (holds.new.stand refl) (subst (λ (n : Moment). HasPhaseOf new v n) ends now)) in
      let phase : IsSyncPhase run all after.now = subst (λ (n : ℕ). IsPhase n all.created all.flushed all.new_flushed after.now all.old all.new) same.geometry (phase_now all new after.now raised) in
      let last : IsLoggedPhase run all (settled (bytes_of m) m) = subst (λ (n : Moment). IsLoggedPhase run all n) ends (phase, fixed) in (
        each_flush (λ n. IsLoggedPhase run v n ⊎ IsLoggedPhase run all n) before before after (Ok tt) (starts (λ n. IsLoggedPhase run v n ⊎ IsLoggedPhase run all n) before (inl (phase_now v run m has, holds))) flushes (λ h. inr last),
        (raised, holds_on run new all after.now same fixed),
      )

  module _ (call : DeviceCall) (next : IsNextCall run call) (within : InLabels call) where
    by_write : (r : Result (Unit {0}) PoolError) (o : Option Target) → is_flush (Some call) ≡ false → target_of run call ≡ o → IfSome o (λ t. (length t.content ≡ t.size) × (t.place + t.size ≤ run.geometry)) → WritesTarget o before r after
        → Outcome (views_after run new v)
    by_write r None other is fits writes = absurd writes
    by_write r (Some t) other is fits writes =
        let stays : views_after run new v ≡ v = ap (λ (o : Option DeviceCall). views_of o (nat_lt run.done new.done)) next ∙ ap (λ (b : Bool). if b && nat_lt run.done new.done then all_flushed v else v) other in
        subst Outcome (sym stays)
        (held_on (write_holds base run sound v leads call t within is fits.0 before after r (let long = sized_now v run before.now has in omega (arith, fits.0, fits.1, long)) holds writes))

  by_flush : (r : Result (Unit {0}) PoolError) → IsNextCall run Flush → new.done ≡ done_after run.done r → Flushes before r after → Outcome (views_after run new v)
  by_flush (Ok x) next done flushes =
      let made : nat_lt run.done new.done ≡ true = lt-ltb run.done new.done (omega (arith, done)) in
      let raised : views_after run new v ≡ all_flushed v = ap (λ (o : Option DeviceCall). views_of o (nat_lt run.done new.done)) next ∙ ap (λ (b : Bool). views_of (Some Flush) b) made in
      subst Outcome (sym raised) (held_fixed flushes)
  by_flush (Err e) next done refused =
      let not_made : nat_lt run.done new.done ≡ false = le-ltb run.done new.done (omega (arith, done)) in
      let stays : views_after run new v ≡ v = ap (λ (o : Option DeviceCall). views_of o (nat_lt run.done new.done)) next ∙ ap (λ (b : Bool). views_of (Some Flush) b) not_made in
      subst Outcome (sym stays) (held_on (subst (λ (d : Disk). EachMoment (HoldsLogs run v false) before d) (sym refused) (starts (HoldsLogs run v false) before holds)))

  pub call_logged : (call : DeviceCall) (r : Result (Unit {0}) PoolError) → IsNextCall run call → InLabels call → TargetFits run call → new.done ≡ done_after run.done r → MakesCall run call before r after
      → EachMoment (λ m. IsLoggedPhase run v m ⊎ IsLoggedPhase run (views_after run new v) m) before after × (HasPhaseOf new (views_after run new v) after.now × HoldsLogs new (views_after run new v) false after.now)
  call_logged (Block k) r next within fits done makes = by_write (Block k) next within r (target_of run (Block k)) refl refl fits makes
  call_logged (Config label) r next within fits done makes = by_write (Config label) next within r (target_of run (Config label)) refl refl fits makes
  call_logged (Uberblock label) r next within fits done makes = by_write (Uberblock label) next within r (target_of run (Uberblock label)) refl refl fits makes
  call_logged Flush r next within fits done makes = by_flush r next done makes
