use Rattle.std.proofs.Common.{ℕ, ◌≡◌, ◌<◌, true, get_or, take}
use Rattle.std.specs.List.{list_all}
use Rattle.base.specs.declared.operation.Op.{Op}
use Rattle.base.specs.formats.Records.{is_content_allowed}
use Rattle.extents.specs.Tables.{CanApply, CanStillApply, IsLeft}
use Rattle.extents.proofs.extents.Extents.reserve.Given as goal

-- the operations so far have their room and their bytes are bytes, and the changes and the room are the old ones
abbrev pub invariant-loop-op : goal.invariant-loop-op
invariant-loop-op l = record {
  room : (k : ℕ) (d : Op) → k < l.op-index → CanApply l.self (get_or l.ops k d);
  bytes : list_all is_content_allowed (take l.op-index l.ops) ≡ true;
  same : IsLeft l.fn.self l.self;
  kept : CanStillApply l.fn.self l.self;
}
