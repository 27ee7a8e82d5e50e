use Rattle.std.proofs.Common.{All, List, map, subst, sym}
use Rattle.base.specs.formats.Records.{IsAllowed}
use Rattle.records.specs.Records.{record_fields}
use Rattle.records.specs.declared.record.Record as code
use Rattle.intent_log.proofs.Fillings.{allowed_rest}
use Rattle.intent_log.proofs.packing.pack_first.Goals as goal

pub begin-requires-clause-allowed : goal.begin-requires-clause-allowed
begin-requires-clause-allowed c = subst (λ (l : List code.Record). All IsAllowed (map record_fields l)) (sym c.split_at.ensures.back) (allowed_rest 1 c.args.pending.now c.requires.allowed)
