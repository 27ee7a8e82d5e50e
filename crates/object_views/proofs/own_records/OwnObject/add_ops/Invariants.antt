use Rattle.std.proofs.Common.{take, Ok}
use Rattle.object_views.specs.OwnRecords.{AddsOwn, own_ops}
use Rattle.object_views.proofs.own_records.OwnObject.add_ops.Given as goal

-- the operations so far are added
abbrev pub invariant-loop-op : goal.invariant-loop-op
invariant-loop-op l = AddsOwn l.self.id.0 l.self.size (own_ops l.self.id.0 l.address (take l.op-index l.ops)) l.fn.changes (Ok tt) l.changes
