use Rattle.std.proofs.Common.{◌≡◌, ◌<◌, ◌≤◌, ◌+◌, ◌++◌, length, map}
use Rattle.std.specs.Prelude.{All}
use Rattle.base.specs.formats.Records.{IsAllowed, bytes_of_records}
use Rattle.records.specs.Records.{record_fields}
use Rattle.intent_log.proofs.block_records.read_records.Given as goal

-- the bytes are those of the records that were read, and after them those that are left
abbrev pub invariant-loop-index : goal.invariant-loop-index
invariant-loop-index l = record {
  spelled : l.bytes ≡ bytes_of_records (map record_fields l.records.items) ++ l.rest;
  allowed : All IsAllowed (map record_fields l.records.items);
  count : length l.records.items ≡ l.index;
  left : 0 < l.index → 0 < length l.rest;
  room : length l.rest + l.index ≤ length l.bytes;
}
