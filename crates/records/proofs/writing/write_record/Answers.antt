use Rattle.std.proofs.Common.{arith}
use Rattle.base.proofs.formats.RecordSpelling.{few-ops}
use Rattle.records.proofs.WrittenOps.{five}
use Rattle.records.proofs.writing.write_record.Goals as goal

pub overflow_cast-ops : goal.overflow_cast-ops
overflow_cast-ops c = rw c.as_slice-ops.ensures (omega (arith, few-ops c.args.committed.now.ops, c.requires.size, c.requires.small))

pub returns : goal.returns
returns c =
    rw (← c.requires.size, ← c.as_slice-ops.ensures)
    (five c.args.out.now c.write_bytes.new.out c.write_bytes-2.new.out c.write_bytes-3.new.out c.write_bytes-4.new.out c.write_ops.new.out _ _ _ _ _
    (rw c.to_le_bytes.ensures at c.write_bytes.ensures) (rw c.to_le_bytes-2.ensures at c.write_bytes-2.ensures) (rw c.to_le_bytes-3.ensures at c.write_bytes-3.ensures) (rw c.to_le_bytes-4.ensures at c.write_bytes-4.ensures) c.write_ops.ensures)
