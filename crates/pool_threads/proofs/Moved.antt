-- A step of a sync or of the log adds moments to its device's disk, and each other step leaves it.
use Rattle.std.proofs.Common.{◌≡◌, inl, inr, ℕ, Bool, true, false, List, ap, sym, subst}
use Rattle.std.specs.Prelude.{IsTrue, Option, Some, None, Result, Ok, Err}
use Rattle.base.specs.declared.error.PoolError.{PoolError}
use Rattle.base.specs.declared.step.Step as declared_step
use Rattle.base.specs.declared.step.Step.TheVariants as step
use Rattle.base.specs.declared.step.Reply as declared_reply
use Rattle.base.specs.declared.step.Reply.TheVariants as reply
use Rattle.base.specs.steps.Shown.{Shown}
use Rattle.base.specs.disk.Disk.{CrashLeaves, Disk, LeavesOnly}
use Rattle.base.specs.disk.SyncOrder.{DeviceCall}
use Rattle.base.specs.disk.SyncOrder.DeviceCall.{Block, Config, Uberblock, Flush}
use Rattle.base.proofs.disk.Moments.{leaves_flush, leaves_write, starts, weaker}
use Rattle.device_model.specs.declared.device.SectorDevice.{Ghosts}
use Rattle.pool_core.specs.Calls.{CallsDevice, WritesBlock, answer_in}
use Rattle.pool_core.specs.KeptSafe.{disk_of}
use Rattle.pool_core.specs.States.{device_of}
use Rattle.pool_core.specs.declared.state.PoolState.{PoolState}
use Rattle.pool_tables.specs.LogBlocks.{PutsLogBlock}
use Rattle.pool_tables.specs.NextCalls.{MakesNextIf}
use Rattle.pool_tables.specs.declared.pool.RunningSync.{RunningSync}
use Rattle.pool_threads.specs.Views.{MovesDisk}
use Rattle.base.specs.kept.LeftDisks.{GoesOnFrom}
use Rattle.sync.specs.Calls.{MakesCall, Target, target_of}
use Rattle.sync.specs.declared.run.SyncRun.{SyncRun}
use Rattle.sync.proofs.Targets.{WritesTarget}

abbrev Any : List ℕ → Type 0
Any image = Unit {0}

only_adds : (old new : Disk) → LeavesOnly old new Any → GoesOnFrom old new
only_adds old new run = weaker (CrashLeaves Any) (λ m. Unit {0}) old new (λ m here. tt) run

none_yet : (disk : Disk) → LeavesOnly disk disk Any
none_yet disk = starts (CrashLeaves Any) disk (λ image left. tt)

target_adds : (o : Option Target) (answer : Result (Unit {0}) PoolError) (old new : Disk) → WritesTarget o old answer new → GoesOnFrom old new
target_adds (Some t) answer old new made = only_adds old new (leaves_write Any old old new t.place t.content answer (none_yet old) made (λ done image left. tt))
target_adds None answer old new made = absurd made

call_adds : (run : SyncRun) (call : DeviceCall) (answer : Result (Unit {0}) PoolError) (old new : Disk) → MakesCall run call old answer new → GoesOnFrom old new
call_adds run (Block k) answer old new made = target_adds (target_of run (Block k)) answer old new made
call_adds run (Config label) answer old new made = target_adds (target_of run (Config label)) answer old new made
call_adds run (Uberblock label) answer old new made = target_adds (target_of run (Uberblock label)) answer old new made
call_adds run Flush answer old new made = only_adds old new (leaves_flush Any old old new answer (none_yet old) made)

pub stays_on : (old new : Disk) → new ≡ old → GoesOnFrom old new
stays_on old new same = subst (GoesOnFrom old) (sym same) (starts (λ m. Unit {0}) old tt)

next_adds : {Dev : Type 0} (keeps : Type 0) (disk : Dev → Disk) (suspended : Bool) (sync : Option RunningSync) (answer : Result (Unit {0}) PoolError) (old new : Dev)
    → MakesNextIf keeps disk suspended sync answer old new → keeps → GoesOnFrom (disk old) (disk new)
next_adds keeps disk true sync answer old new same k = stays_on (disk old) (disk new) (ap disk same)
next_adds keeps disk false None answer old new same k = stays_on (disk old) (disk new) (ap disk same)
next_adds keeps disk false (Some r) answer old new next k = call_adds r.run next.call answer (disk old) (disk new) (next.made k)

block_adds : {old new : Shown} {done : Bool} (answer : Result (Unit {0}) PoolError) (before after : Disk) → PutsLogBlock answer done old new before after → GoesOnFrom before after
block_adds {old} answer before after put =
    only_adds before after (leaves_write Any before before after old.log.next.address put.block.content answer (none_yet before) put.writes (λ done image left. tt))

written_adds : {Dev : Type 0} {G : Ghosts Dev} (r : declared_reply.Reply) (old new : PoolState Dev G) → WritesBlock r old new → GoesOnFrom (disk_of old) (disk_of new)
written_adds (reply.Logged count) old new put = block_adds (Ok tt) (disk_of old) (disk_of new) put
written_adds (reply.Refused e) old new (inl none) = stays_on (disk_of old) (disk_of new) none.1
written_adds (reply.Refused e) old new (inr put) = block_adds (Err e) (disk_of old) (disk_of new) put
written_adds _ old new same = stays_on (disk_of old) (disk_of new) same

pub moved_by : {Dev : Type 0} {G : Ghosts Dev} (s : declared_step.Step) (r : declared_reply.Reply) (old new : PoolState Dev G) → CallsDevice s r old new → IsTrue G.keeps_model
    → MovesDisk s (disk_of old) (disk_of new)
moved_by {G} step.SyncStep r old new calls keeps = next_adds (IsTrue G.keeps_model) G.disk old.pool.suspended old.pool.sync (answer_in r) (device_of old) (device_of new) calls keeps
moved_by {G} step.LogWrite r old new calls keeps = written_adds r old new (calls keeps)
moved_by {G} step.LogFlush r old new calls keeps = only_adds (disk_of old) (disk_of new) (leaves_flush Any (disk_of old) (disk_of old) (disk_of new) (answer_in r) (none_yet (disk_of old)) (calls keeps))
moved_by {G} (step.Read owner object range) r old new reads keeps = reads keeps
moved_by {G} step.Digest r old new reads keeps = reads keeps
moved_by {G} (step.StartSync moment) r old new reads keeps = reads keeps
moved_by {G} _ r old new same keeps = ap G.disk same

-- so the disk goes on by a step
pub moved_on : (s : declared_step.Step) (old new : Disk) → MovesDisk s old new → GoesOnFrom old new
moved_on step.SyncStep old new moves = moves
moved_on step.LogWrite old new moves = moves
moved_on step.LogFlush old new moves = moves
moved_on _ old new same = stays_on old new same
