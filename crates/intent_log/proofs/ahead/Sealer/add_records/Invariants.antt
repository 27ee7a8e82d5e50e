use Rattle.std.proofs.Common.{All, map}
use Rattle.base.specs.formats.Records.{IsAllowed}
use Rattle.records.specs.Records.{record_fields}
use Rattle.intent_log.proofs.ahead.Sealer.add_records.Given as goal

-- the records that are left are within their limits
abbrev pub invariant-loop : goal.invariant-loop
invariant-loop l = All IsAllowed (map record_fields l.pending)
