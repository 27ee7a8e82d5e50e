-- What keeps a pool going: the step that is due next, by what the pool shows.
use Rattle.std.specs.Prelude.{ℕ, ◌||◌, ◌&&◌, ◌==◌, Bool, false, if◌then◌else◌, Option, Some, None, is_none, is_some, length, nat_le, nat_lt, not}
use Rattle.std.specs.Option.{option_map_or}
use Rattle.base.specs.declared.step.Step as declared_step
use Rattle.base.specs.declared.step.Step.TheVariants as step
use Rattle.base.specs.steps.Groups.{hold_count}
use Rattle.base.specs.steps.Logs.{awaits_flush}
use Rattle.base.specs.steps.Refusals.{quiesced_group, quiescing_group}
use Rattle.base.specs.steps.Shown.{Shown, dirty_of}
use Rattle.pool_tables.specs.declared.duty.Duty.{Duty}
use Rattle.pool_tables.specs.declared.duty.Duty.TheVariants as duty

-- a closed group quiesces, and none of its transactions is open
abbrev pub is_quiescent : Shown → Bool
is_quiescent s = option_map_or (λ g. hold_count g s.transactions == 0) (quiescing_group s.line) false

-- no group is in the middle, and bytes are charged to the open group
abbrev pub wants_close : Shown → Bool
wants_close s = is_none s.line.middle && nat_lt 0 (dirty_of s s.line.open_group)

-- a record is pending for the log, or begun and not yet whole
abbrev pub is_log_pending : Shown → Bool
is_log_pending s = not ((length s.log.pending == 0) && is_none s.log.begun)

-- a log block is kept, and no record is begun: a sync of all unsynced groups gives every kept block back
abbrev pub keeps_whole_log : Shown → Bool
keeps_whole_log s = is_none s.log.begun && not (length s.log.kept == 0)

-- Pending records are written to the log, and once none is pending or begun, what was written is flushed. A suspended
-- pool refuses the write.
abbrev pub log_step : Shown → Option declared_step.Step
log_step s =
    if s.suspended || is_log_pending s then Some step.LogWrite
    else if awaits_flush s.log then Some step.LogFlush else None

-- The open group is closed if that is wanted, and a closed one is marked once it is quiescent. A suspended pool refuses
-- the close.
abbrev pub quiescing_step : Shown → Option declared_step.Step
quiescing_step s =
    if s.suspended || wants_close s then Some step.CloseGroup
    else if is_quiescent s then Some step.MarkQuiesced else None

-- The sync that runs goes on, and if none does, that of the quiesced group starts. A suspended pool refuses the sync.
abbrev pub syncing_step : ℕ → Shown → Option declared_step.Step
syncing_step moment s =
    if s.suspended || is_some s.line.syncing then Some step.SyncStep
    else if is_some (quiesced_group s.line) then Some (step.StartSync moment) else None

-- the next step of a closed group, or of the open one if none is closed: nothing while its transactions are open
abbrev pub closing_step : Shown → Option declared_step.Step
closing_step s =
    if is_none s.line.middle then Some step.CloseGroup
    else if is_quiescent s then Some step.MarkQuiesced else None

-- a sync goes on or starts, or else a group is brought closer to its own
abbrev pub step_to_sync : ℕ → Shown → Option declared_step.Step
step_to_sync moment s = if is_some (syncing_step moment s) then syncing_step moment s else closing_step s

-- so it is until this group is synced
abbrev pub step_up_to : ℕ → ℕ → Shown → Option declared_step.Step
step_up_to group moment s = if nat_le group s.line.synced then None else step_to_sync moment s

abbrev pub due_step : Duty → Shown → Option declared_step.Step
due_step duty.CommitLog s = log_step s
due_step duty.Quiesce s = quiescing_step s
due_step (duty.Sync moment) s = syncing_step moment s
due_step (duty.SyncUpTo group moment) s = step_up_to group.0 moment s
