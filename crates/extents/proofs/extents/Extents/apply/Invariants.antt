use Rattle.std.proofs.Common.{◌≡◌, ℕ, drop}
use Rattle.base.specs.history.Contents.{name_given_by_all}
use Rattle.extents.specs.Patches.{with_ops}
use Rattle.extents.specs.Tables.{CanApplyAll, CanStillApply, IsSame, name_of, patches_of}
use Rattle.extents.proofs.extents.Extents.apply.Given as goal

-- all operations have their room, as others still have, and those that are left make of the changes and of the name
-- what all make of the old ones
abbrev pub invariant-loop-op : goal.invariant-loop-op
invariant-loop-op l = record {
  room : CanApplyAll l.self l.ops;
  kept : CanStillApply l.fn.self l.self;
  left : (n : ℕ) → IsSame (with_ops (drop l.op-index l.ops) (patches_of l.self) n) (with_ops l.ops (patches_of l.fn.self) n);
  named : name_given_by_all (drop l.op-index l.ops) (name_of l.self) ≡ name_given_by_all l.ops (name_of l.fn.self);
}
