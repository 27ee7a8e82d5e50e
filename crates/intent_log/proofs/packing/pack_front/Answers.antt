use Rattle.std.proofs.Common.{All, List, map, subst, sym}
use Rattle.base.specs.formats.Records.{IsAllowed}
use Rattle.records.specs.Records.{record_fields}
use Rattle.records.specs.declared.record.Record as code
use Rattle.intent_log.proofs.Fillings.{allowed_rest}
use Rattle.intent_log.proofs.PackedRecords.{packed_whole}
use Rattle.intent_log.proofs.packing.pack_front.Goals as goal

pub returns : goal.returns
returns c = packed_whole c.args.place.now c.seal.result (map record_fields c.args.pending.now) c.args.count c.args.bytes.now c.requires.front c.seal.ensures

pub seal-requires-clause-allowed : goal.seal-requires-clause-allowed
seal-requires-clause-allowed c = subst (λ (l : List code.Record). All IsAllowed (map record_fields l)) (sym c.split_at.ensures.back) (allowed_rest _ c.args.pending.now c.requires.allowed)
