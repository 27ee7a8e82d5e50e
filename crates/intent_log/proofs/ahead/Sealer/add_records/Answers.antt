use Rattle.std.proofs.Common.{All, List, map, subst, sym}
use Rattle.base.specs.formats.Records.{IsAllowed}
use Rattle.records.specs.Records.{record_fields}
use Rattle.records.specs.declared.record.Record as code
use Rattle.intent_log.proofs.Fillings.{allowed_rest}
use Rattle.intent_log.proofs.ahead.Sealer.add_records.Goals as goal

pub loop-init : goal.loop-init
loop-init c = c.requires

pub encode_front-requires-clause-allowed : goal.encode_front-requires-clause-allowed
encode_front-requires-clause-allowed c = c.loop.invariant

pub loop-preserved : goal.loop-preserved
loop-preserved c = subst (λ (l : List code.Record). All IsAllowed (map record_fields l)) (sym c.split_at.ensures.back) (allowed_rest _ c.loop.pending.now c.loop.invariant)
