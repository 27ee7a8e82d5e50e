use Rattle.std.proofs.Common.{◌≡◌, take}
use Rattle.std.specs.List.{flat_map}
use Rattle.object_views.specs.PoolNames.{name_after, ops_above}
use Rattle.object_views.proofs.names.rename_by_piece.Given as goal

-- the name after the records so far
abbrev pub invariant-loop-logged : goal.invariant-loop-logged
invariant-loop-logged l = l.name ≡ name_after (flat_map (ops_above l.group.0) (take l.logged-index l.records)) l.fn.name
