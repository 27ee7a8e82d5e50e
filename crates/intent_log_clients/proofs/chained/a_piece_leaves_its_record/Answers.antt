use Rattle.std.proofs.Common.{◌∙◌, List, ap, map, sym}
use Rattle.std.proofs.lemmas.Simd.{map-map}
use Rattle.base.specs.formats.Records as base_record
use Rattle.records.specs.Records.{record_fields}
use Rattle.intent_log_clients.proofs.chained.a_piece_leaves_its_record.Goals as goal

pub returns : goal.returns
returns c =
    sym (map-map (λ (r : base_record.Record). r.ordinal) record_fields c.into_records.result.items)
    ∙ ap (λ (rs : List base_record.Record). map (λ (r : base_record.Record). r.ordinal) rs) c.into_records.ensures ∙ c.requires
