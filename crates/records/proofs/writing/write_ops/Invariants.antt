use Rattle.std.proofs.Common.{take}
use Rattle.std.specs.List.{flat_map}
use Rattle.base.specs.formats.Records.{op_bytes}
use Rattle.records.specs.Writing.{AppendsBytes}
use Rattle.records.proofs.writing.write_ops.Given as goal

-- the operations so far are appended
abbrev pub invariant-loop-op : goal.invariant-loop-op
invariant-loop-op l = AppendsBytes l.initial.out l.out (flat_map op_bytes (take l.op-index l.ops))
