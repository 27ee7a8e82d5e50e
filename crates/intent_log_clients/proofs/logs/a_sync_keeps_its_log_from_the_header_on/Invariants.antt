use Rattle.std.proofs.Common.{◌≡◌, length, map}
use Rattle.records.specs.Records.{record_fields}
use Rattle.intent_log.specs.Kept.{header_fields, log_shown}
use Rattle.intent_log.specs.RunLogs.{pending_after, records_after}
use Rattle.intent_log.proofs.Callers.{blocks_from}
use Rattle.intent_log_clients.proofs.logs.a_sync_keeps_its_log_from_the_header_on.Given as goal

-- the blocks from the header on are those that were there first
abbrev pub invariant-loop-header : goal.invariant-loop-header
invariant-loop-header l = record {
  same : blocks_from (header_fields l.header) l.log.kept ≡ blocks_from (header_fields l.header) l.fn.log.kept;
  others : log_shown l.log ≡ record (log_shown l.fn.log) {
    unsynced = map record_fields (records_after l.fn.group.0 l.fn.log.records);
    pending = pending_after l.fn.group.0 l.fn.log.pending;
    kept = l.log.kept;
  };
}

abbrev pub decreases-loop-header : goal.decreases-loop-header
decreases-loop-header l = length l.log.kept
