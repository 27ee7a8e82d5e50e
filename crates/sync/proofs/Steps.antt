-- What a sync has written after its next call.
use Rattle.std.proofs.Common.{◌≡◌, inl, inr, ℕ, ◌+◌, ◌≤◌, List, length, Option, Some, None, Result, Ok, Err, sym, ap, subst, arith}
use Rattle.std.specs.Prelude.{slice_get, IfSome}
use Rattle.base.specs.declared.error.PoolError.{PoolError}
use Rattle.base.specs.disk.Disk.{Disk, bytes_of, put}
use Rattle.base.specs.disk.Calls.{Flushes}
use Rattle.base.specs.disk.SyncOrder.{DeviceCall}
use Rattle.base.specs.disk.SyncOrder.DeviceCall.{Block, Config, Uberblock, Flush}
use Rattle.base.proofs.disk.Regions.{flushed_clean}
use Rattle.sync.specs.declared.run.SyncRun.{SyncRun}
use Rattle.sync.specs.Calls.{Target, target_of, IsNextCall, MakesCall, TargetFits}
use Rattle.sync.specs.Made.{AreWritten, targets_of, HasMade, HasDistinctBlocks}
use Rattle.sync.proofs.Targets.{IsSound, WritesTarget, target_of_call, targets_parted}
use Rattle.sync.proofs.Written.{written_more, nothing_more}

-- what is written after a call that answers so
abbrev WrittenAfter : List ℕ → SyncRun → Result (Unit {0}) PoolError → Disk → Type 0
WrittenAfter base run (Ok x) after = AreWritten base (targets_of run) (run.done + 1) (bytes_of after.now)
WrittenAfter base run (Err e) after = AreWritten base (targets_of run) run.done (bytes_of after.now)

same_bytes : (base : List ℕ) (run : SyncRun) (before after : Disk) → bytes_of after.now ≡ bytes_of before.now → HasMade base run (bytes_of before.now) → HasMade base run (bytes_of after.now)
same_bytes base run before after same so_far = subst (λ (image : List ℕ). AreWritten base (targets_of run) run.done image) (sym same) so_far

module _ (base : List ℕ) (run : SyncRun) (sound : IsSound run) (distinct : HasDistinctBlocks run) where
  after_write : (o : Option Target) (before after : Disk) (r : Result (Unit {0}) PoolError) → slice_get (targets_of run) run.done ≡ Some o → IfSome o (λ t. (length t.content ≡ t.size) × (t.place + t.size ≤ run.geometry))
      → length (bytes_of before.now) ≡ run.geometry → HasMade base run (bytes_of before.now) → WritesTarget o before r after → WrittenAfter base run r after
  after_write None before after r at fits sized so_far writes = absurd writes
  after_write (Some t) before after (Ok x) at fits sized so_far writes =
      let more : AreWritten base (targets_of run) (run.done + 1) (put t.place t.content (bytes_of before.now)) =
      written_more base (bytes_of before.now) (targets_of run) run.done t so_far at fits.0 (omega (arith, fits.1, sized)) (λ k u below at_u. targets_parted run sound distinct run.done k t u at at_u) in
      subst (λ (d : Disk). AreWritten base (targets_of run) (run.done + 1) (bytes_of d.now)) (sym writes) more
  after_write (Some t) before after (Err e) at fits sized so_far (inl noted) = same_bytes base run before after (ap (λ (d : Disk). bytes_of d.now) noted) so_far
  after_write (Some t) before after (Err e) at fits sized so_far (inr same) = same_bytes base run before after (ap (λ (d : Disk). bytes_of d.now) same) so_far

  after_flush : (before after : Disk) (r : Result (Unit {0}) PoolError) → slice_get (targets_of run) run.done ≡ Some None → HasMade base run (bytes_of before.now) → Flushes before r after → WrittenAfter base run r after
  after_flush before after (Ok x) at so_far flushes =
      nothing_more base (bytes_of after.now) (targets_of run) run.done (same_bytes base run before after (flushed_clean before after flushes).1 so_far) at
  after_flush before after (Err e) at so_far flushes = same_bytes base run before after (ap (λ (d : Disk). bytes_of d.now) flushes) so_far

  -- after the next call the sync has made one more, or as many where the device refused it
  pub after_call : (call : DeviceCall) (before after : Disk) (r : Result (Unit {0}) PoolError) → IsNextCall run call → TargetFits run call → length (bytes_of before.now) ≡ run.geometry
      → HasMade base run (bytes_of before.now) → MakesCall run call before r after → WrittenAfter base run r after
  after_call (Block k) before after r at fits sized so_far makes = after_write (target_of run (Block k)) before after r (target_of_call run run.done (Block k) at) fits sized so_far makes
  after_call (Config l) before after r at fits sized so_far makes = after_write (target_of run (Config l)) before after r (target_of_call run run.done (Config l) at) fits sized so_far makes
  after_call (Uberblock l) before after r at fits sized so_far makes = after_write (target_of run (Uberblock l)) before after r (target_of_call run run.done (Uberblock l) at) fits sized so_far makes
  after_call Flush before after r at fits sized so_far makes = after_flush before after r (target_of_call run run.done Flush at) so_far makes
