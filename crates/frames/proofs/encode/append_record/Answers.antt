use Rattle.std.proofs.Common.{ℕ, List, [], ◌∷◌, ◌++◌, ap, ◌∙◌, append_assoc}
use Rattle.base.specs.formats.Records.{bytes_of_record}
use Rattle.records.specs.Records.{record_fields}
use Rattle.frames.proofs.encode.append_record.Goals as goal

pub returns-in-Ok-clause-bytes : goal.returns-in-Ok-clause-bytes
returns-in-Ok-clause-bytes c =
    let bytes : List ℕ = bytes_of_record (record_fields c.args.committed.now) in
    c.in-Ok.ensures.bytes ∙ ap (λ (l : List ℕ). l ++ bytes) c.write_bytes.ensures.items ∙ append_assoc c.args.out.now.items (c.args.number ∷ []) bytes
