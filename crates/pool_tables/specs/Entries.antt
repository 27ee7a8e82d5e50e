-- What a commit makes of what a pool shows, and what it needs.
use Rattle.std.specs.Prelude.{ℕ, ◌≡◌, ◌+◌, ◌<◌, ◌≤◌, true, List, map}
use Rattle.base.specs.declared.operation.Op.{Op}
use Rattle.base.specs.formats.Limits.{max_log_record}
use Rattle.base.specs.history.Contents.{Contents}
use Rattle.base.specs.history.Plans.{is_plan_allowed, log_record_size, shape_of}
use Rattle.base.specs.steps.Groups.{Line}
use Rattle.base.specs.steps.Logs.{log_after_commit}
use Rattle.base.specs.steps.Shown.{Shown}
use Rattle.base.specs.steps.Steps.{transactions_without}
use Rattle.unsynced_extents.specs.Unsynced.{CanApplyAt}
use Rattle.intent_log.specs.Kept.{HasRecordRoom}
use Rattle.pool_tables.specs.declared.pool.PoolTables.{PoolTables}

-- a group after the synced one, up to the open one
pub record IsUnsynced (l : Line) (group : ℕ) : Type 0 where
  pub above : l.synced < group
  pub open_or_before : group ≤ l.open_group

-- the pool has room for a commit of these operations: among the changes of its group, and for one record more
pub record HasRoomToEnter (place : ℕ) (ops : List Op) (pool : PoolTables) : Type 0 where
  pub changes : CanApplyAt place pool.changes ops
  pub record_room : HasRecordRoom pool.log

-- these operations, one at least, have shapes within the limits, and their record fits the log
pub record FitsRecord (ops : List Op) : Type 0 where
  pub shapes : is_plan_allowed (map shape_of ops) ≡ true
  pub size : log_record_size (map shape_of ops) ≤ max_log_record

-- what is shown once a transaction of a group has committed and left these contents
abbrev pub shown_after_entry : ℕ → ℕ → List Op → Contents → Shown → Shown
shown_after_entry tx group ops contents s = record s {
  transactions = transactions_without tx s.transactions;
  contents = contents;
  next_ordinal = s.next_ordinal + 1;
  log = log_after_commit (record { group = group; ordinal = s.next_ordinal; ops = ops }) s.log;
}
