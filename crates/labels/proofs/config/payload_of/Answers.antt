use Rattle.std.proofs.Common.{ℕ, List, length, arith}
use Rattle.base.specs.formats.Fields.{number_bytes}
use Rattle.base.proofs.formats.FieldsRead.{length-number_bytes, put-fields}
use Rattle.labels.proofs.config.payload_of.Goals as goal

pub returns-clause-payload : goal.returns-clause-payload
returns-clause-payload c =
    let name : List ℕ = c.args.name.now in
    put-fields (number_bytes 1) (number_bytes c.args.size) (number_bytes (length name)) name _ c.write_u64.new.bytes c.write_u64-2.new.bytes c.write_u64-3.new.bytes c.write_bytes.new.bytes
    (length-number_bytes 1) (length-number_bytes c.args.size) (length-number_bytes (length name)) (omega (arith, c.requires))
    c.write_u64.ensures c.write_u64-2.ensures c.write_u64-3.ensures c.write_bytes.ensures
