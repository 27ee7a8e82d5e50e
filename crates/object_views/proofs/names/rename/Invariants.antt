use Rattle.std.proofs.Common.{◌≡◌, [], ◌∷◌, take}
use Rattle.std.specs.List.{flat_map}
use Rattle.base.specs.declared.operation.Op.{Op}
use Rattle.object_views.specs.PoolNames.{name_after}
use Rattle.object_views.proofs.names.rename.Given as goal

-- the name after the operations so far
abbrev pub invariant-loop-op : goal.invariant-loop-op
invariant-loop-op l = l.name ≡ name_after (flat_map (λ (op : Op). op ∷ []) (take l.op-index l.ops)) l.fn.name
