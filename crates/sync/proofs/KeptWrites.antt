-- The next call of a sync keeps that what it has written is all that is.
use Rattle.std.proofs.Common.{◌≡◌, ◌∙◌, ℕ, ◌+◌, ◌<◌, length, Result, Ok, Err, arith, sym}
use Rattle.base.specs.declared.error.PoolError.{PoolError}
use Rattle.base.specs.disk.Disk.{Disk, bytes_of}
use Rattle.base.specs.disk.SyncOrder.{DeviceCall}
use Rattle.sync.specs.declared.run.SyncRun.{SyncRun}
use Rattle.sync.specs.Calls.{IsNextCall, MakesCall, TargetFits}
use Rattle.sync.specs.Made.{KeepsWritten, targets_of}
use Rattle.sync.specs.Runs.{call_count}
use Rattle.sync.proofs.Blocks.{last_cleans}
use Rattle.sync.proofs.Steps.{after_call}
use Rattle.sync.proofs.Targets.{IsSound}

-- how many calls were made after one with this answer
abbrev pub done_after : ℕ → Result (Unit {0}) PoolError → ℕ
done_after done (Ok x) = done + 1
done_after done (Err e) = done

pub keeps_written : (run new : SyncRun) (call : DeviceCall) (before after : Disk) (r : Result (Unit {0}) PoolError) → IsSound run → targets_of new ≡ targets_of run → new.done ≡ done_after run.done r → call_count new ≡ call_count run → run.done < call_count run
    → IsNextCall run call → TargetFits run call → length (bytes_of before.now) ≡ run.geometry → MakesCall run call before r after → KeepsWritten run new before.now after.now
keeps_written run new call before after (Ok x) sound same done count left next fits sized makes = record {
  made = λ distinct base so_far. rw (same, done) (after_call base run sound distinct call before after (Ok x) next fits sized so_far makes);
  settled = λ last. last_cleans run call before after (sym done ∙ last ∙ count) next makes;
}
keeps_written run new call before after (Err e) sound same done count left next fits sized makes = record {
  made = λ distinct base so_far. rw (same, done) (after_call base run sound distinct call before after (Err e) next fits sized so_far makes);
  settled = λ last. absurd (omega (arith, left, sym done ∙ last ∙ count));
}
