use Rattle.std.proofs.Common.{◌≡◌, [], ◌∷◌, take}
use Rattle.std.specs.List.{flat_map}
use Rattle.base.specs.formats.Chain.{LogPiece}
use Rattle.base.specs.tree.Mount.{records_above}
use Rattle.object_views.specs.PoolNames.{name_after, ops_in}
use Rattle.object_views.proofs.names.rename_by_chain.Given as goal

-- the name after the pieces so far
abbrev pub invariant-loop-piece : goal.invariant-loop-piece
invariant-loop-piece l = l.name ≡ name_after (flat_map (λ (b : LogPiece). ops_in (records_above l.group.0 (b ∷ []))) (take l.piece-index l.pieces)) l.fn.name
