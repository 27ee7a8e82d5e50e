use Rattle.std.proofs.Common.{[], ◌∷◌, take, Ok}
use Rattle.std.specs.List.{flat_map}
use Rattle.base.specs.formats.Chain.{LogPiece}
use Rattle.base.specs.tree.Mount.{records_above}
use Rattle.object_views.specs.OwnRecords.{AddsOwn, own_of_records}
use Rattle.object_views.proofs.own_records.OwnObject.replay.Given as goal

-- the operations of the pieces so far are added
abbrev pub invariant-loop-piece : goal.invariant-loop-piece
invariant-loop-piece l =
    AddsOwn l.self.id.0 l.self.size (flat_map (λ (b : LogPiece). own_of_records l.self.id.0 (records_above l.group.0 (b ∷ []))) (take l.piece-index l.pieces)) l.initial.changes (Ok tt) l.changes
