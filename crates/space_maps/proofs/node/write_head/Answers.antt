use Rattle.std.proofs.Common.{arith}
use Rattle.base.specs.formats.Fields.{number_bytes}
use Rattle.base.proofs.formats.FieldsRead.{length-number_bytes}
use Rattle.checked_blocks.proofs.Placed.{put-head}
use Rattle.space_maps.proofs.node.write_head.Goals as goal

pub returns-clause-head : goal.returns-clause-head
returns-clause-head c =
    let a = c.args in
    put-head (number_bytes a.kind) (number_bytes a.guid) (number_bytes a.group) (number_bytes a.number) a.bytes.now
    c.write_u64.new.bytes c.write_u64-2.new.bytes c.write_u64-3.new.bytes c.write_u64-4.new.bytes
    (length-number_bytes a.kind) (length-number_bytes a.guid) (length-number_bytes a.group) (length-number_bytes a.number) (omega (arith, c.requires))
    c.write_u64.ensures c.write_u64-2.ensures c.write_u64-3.ensures c.write_u64-4.ensures
